-- What an operation over a recorder says of every world that may stand behind its view.
use Rattle.std.specs.Prelude.{◌≡◌, ℕ, ⊤, List, Option, Result, Ok, Err}
use Rattle.ident_rules.specs.declared.key.Key.{Key}
use Rattle.resource_schema.specs.declared.schema.Schema.{Schema}
use Rattle.world_cells.specs.World.{World, cell_at}
use Rattle.world_cells.specs.Reads.{Cells, Leads}
use Rattle.error_objects.specs.declared.refusals.Refusal.{Refusal}
use Rattle.error_objects.specs.declared.refusals.Read.{Read}
use Rattle.error_objects.specs.declared.refusals.Read.TheVariants as read
use Rattle.task_forms.specs.declared.operations.Operation.{Operation}
use Rattle.store_model.specs.Change.{Lids, Changed, apply}
use Rattle.store_model.specs.Run.{refusal_under}
use Rattle.store_model.specs.Reach.{reach_operation}
use Rattle.view_reads.specs.Recording.{Recording}
use Rattle.trial_steps.specs.Steps.{StandsBehind, ReadsWithin}
use Rattle.ident_rules.specs.declared.step_errors.StepError.{StepError}
use Rattle.ident_rules.specs.declared.step_errors.StepError.TheVariants.{Because, NoMemory}

-- The outcome of an operation at its pointer is the definition's, and after it the writes lead to the definition's world.
abbrev pub IsOutcome : {V : Type 0} → Schema → List ℕ → Result Changed Refusal → Read (Option Key) → Lids → World → Recording V → Type 0
IsOutcome schema at (Ok changed) (read.Good key) lids w after = (key ≡ changed.key) × (lids ≡ changed.lids) × Leads (cell_at schema w) after.writes (cell_at schema changed.world)
IsOutcome schema at (Ok changed) (read.Refused refusal) lids w after = ⊥
IsOutcome schema at (Err expected) (read.Good key) lids w after = ⊥
IsOutcome schema at (Err expected) (read.Refused refusal) lids w after = refusal ≡ refusal_under at expected
IsOutcome schema at outcome read.NoMemory lids w after = ⊤

-- In every world that may stand behind the view, as the earlier writes changed it, the outcome is the definition's.
abbrev pub TellsChange : {V : Type 0} → Schema → (V → Cells) → List ℕ → Operation → Lids → Lids → Recording V → Recording V → Read (Option Key) → Type 0
TellsChange schema cells at operation old_lids new_lids before after result =
    (w now : World) → StandsBehind schema (cells before.store) after.reads w now → Leads (cell_at schema w) before.writes (cell_at schema now)
    → IsOutcome schema at (apply schema now operation old_lids) result new_lids w after

-- Each key that the operation read lies in its reach, in every world with the view's cells, as the earlier writes changed it.
abbrev pub ReadsInReach : {V : Type 0} → Schema → (V → Cells) → Operation → Lids → Recording V → Recording V → Type 0
ReadsInReach schema cells operation lids before after = ReadsWithin schema cells (λ now. reach_operation now lids operation) before after

-- what a step that may stop answers
abbrev pub read_of : {T : Type 0} → Result T (StepError Refusal) → Read T
read_of (Ok x) = read.Good x
read_of (Err (Because refusal)) = read.Refused refusal
read_of (Err NoMemory) = read.NoMemory
