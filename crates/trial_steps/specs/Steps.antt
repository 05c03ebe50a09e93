-- What one step of a trial says: of what it reads and writes, and of every world that may stand behind the view.
use Rattle.std.specs.Prelude.{◌≡◌, ⊤, Bool, IsTrue, IsFalse, ℕ, List, Option, Some, None, Result, Ok, Err}
use Rattle.resource_schema.specs.declared.schema.Schema.{Schema}
use Rattle.world_cells.specs.declared.keys.CellKey.{CellKey}
use Rattle.world_cells.specs.declared.sets.ReadSet.{ReadSet}
use Rattle.world_cells.specs.declared.sets.Written.{Written}
use Rattle.world_cells.specs.World.{World, cell_at}
use Rattle.world_cells.specs.Reads.{Cells, covers, AgreeOn, Leads}
use Rattle.error_objects.specs.declared.refusals.Refusal.{Refusal}
use Rattle.store_model.specs.Valid.{IsValid}
use Rattle.store_model.specs.Run.{refusal_under}
use Rattle.view_reads.specs.Recording.{Recording, Follows}
use Rattle.ident_rules.specs.declared.step_errors.StepError.{StepError}
use Rattle.ident_rules.specs.declared.step_errors.StepError.TheVariants.{Because, NoMemory}

-- ---- steps that read

-- The store and the writes stay, what was read stays read, and each key that is read by the step passes the test.
pub record LooksAt {V : Type 0} (test : CellKey → Bool) (before after : Recording V) : Type 0 where
  pub follows : Follows before after
  pub writes : after.writes ≡ before.writes
  pub within : (k : CellKey) → IsTrue (covers after.reads k) → IsFalse (covers before.reads k) → IsTrue (test k)

-- A world may stand behind the view: it is valid and agrees with it on the reads. Under the earlier writes it is another valid world, now.
pub record StandsBehind (schema : Schema) (store : Cells) (reads : ReadSet) (w now : World) : Type 0 where
  pub valid : IsValid schema w
  pub agrees : AgreeOn reads (cell_at schema w) store
  pub now_valid : IsValid schema now

-- Each key that was read meanwhile is in the reach of every world now with the view's cells, as the earlier writes changed them.
abbrev pub ReadsWithin : {V : Type 0} → Schema → (V → Cells) → (World → CellKey → Bool) → Recording V → Recording V → Type 0
ReadsWithin schema cells reach before after =
    (w now : World) → IsValid schema w → ((k : CellKey) → cell_at schema w k ≡ cells before.store k) → IsValid schema now → Leads (cell_at schema w) before.writes (cell_at schema now)
    → (k : CellKey) → IsTrue (covers after.reads k) → IsFalse (covers before.reads k) → IsTrue (reach now k)

-- It is so of every world now that may stand behind the view under the earlier writes.
abbrev pub Sees : {V : Type 0} → Schema → (V → Cells) → Recording V → Recording V → (World → Type 0) → Type 0
Sees schema cells before after P =
    (w now : World) → StandsBehind schema (cells before.store) after.reads w now → Leads (cell_at schema w) before.writes (cell_at schema now) → P now

-- The refusal that is told, seen from the request, or where there is none a value of which P holds.
abbrev pub RefusesOr : {T : Type 0} → List ℕ → Option Refusal → (T → Type 0) → Result T (StepError Refusal) → Type 0
RefusesOr at expected P (Ok x) = (expected ≡ None) × P x
RefusesOr at expected P (Err (Because r)) = (e : Refusal) × (expected ≡ Some e) × (r ≡ refusal_under at e)
RefusesOr at expected P (Err NoMemory) = ⊤

-- what a step that may stop tells of every world now that may stand behind the view
abbrev pub TellsIn : {V T : Type 0} → Schema → List ℕ → (V → Cells) → Recording V → Recording V → (World → Option Refusal) → (World → T → Type 0) → Result T (StepError Refusal) → Type 0
TellsIn schema at cells before after expected P result = Sees schema cells before after (λ now. RefusesOr at (expected now) (P now) result)

-- and under every schema
abbrev pub Tells : {V T : Type 0} → List ℕ → (V → Cells) → Recording V → Recording V → (Schema → World → Option Refusal) → (World → T → Type 0) → Result T (StepError Refusal) → Type 0
Tells at cells before after expected P result = (schema : Schema) → TellsIn schema at cells before after (expected schema) P result

-- ---- steps that write

-- The store and the reads stay, and writes that lead to a world that is told lead to another one.
pub record LeavesReads {V : Type 0} (before after : Recording V) : Type 0 where
  pub store : after.store ≡ before.store
  pub reads : after.reads ≡ before.reads

-- writes that lead to a valid world, of which P holds, lead after the step to the world that is told
abbrev pub LeadsOn : Schema → (World → Type 0) → (World → World) → List Written → List Written → Type 0
LeadsOn schema P next before after = (w now : World) → IsValid schema now → P now → Leads (cell_at schema w) before (cell_at schema now) → Leads (cell_at schema w) after (cell_at schema (next now))
