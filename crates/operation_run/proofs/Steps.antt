-- An operation over a recorder, and then a look at its row.
use Rattle.std.proofs.Common.{◌≡◌, ℕ, Bool, true, false, List, [], Option, refl, sym, ap, subst, ◌∙◌}
use Rattle.std.specs.Prelude.{IsTrue, Result, Ok, Err}
use Rattle.ident_rules.specs.declared.key.Key.{Key}
use Rattle.resource_schema.specs.declared.schema.Schema.{Schema}
use Rattle.world_cells.specs.declared.keys.CellKey.{CellKey}
use Rattle.world_cells.specs.declared.sets.Written.{Written}
use Rattle.world_cells.specs.Reads.{Cells, Leads, covers}
use Rattle.world_cells.specs.World.{World, cell_at}
use Rattle.error_objects.specs.declared.refusals.Blame.{Blame}
use Rattle.error_objects.specs.declared.refusals.Blame.TheVariants as blame
use Rattle.error_objects.specs.declared.refusals.Refusal.{Refusal}
use Rattle.error_objects.specs.declared.refusals.Read.TheVariants as read
use Rattle.task_forms.specs.Fit.{FitsOperation}
use Rattle.task_forms.specs.declared.operations.Operation.{Operation}
use Rattle.store_model.specs.Change.{Lids, Changed, apply}
use Rattle.store_model.specs.Reach.{is_row_in, reach_operation}
use Rattle.store_model.specs.Run.{blame_under, refusal_under}
use Rattle.view_reads.specs.Recording.{Follows, Recording}
use Rattle.trial_steps.specs.Steps.{LooksAt, Sees, StandsBehind}
use Rattle.trial_steps.specs.StepLaws.{stands_before}
use Rattle.row_change.specs.Trial.{IsOutcome, ReadsInReach, TellsChange}
use Rattle.operation_run.specs.Texts.{keys_of}
use Rattle.operation_run.proofs.Reached.{changed_valid}
use Rattle.operation_run.proofs.KeyReach.{key_in_reach}

-- ---- refusals

under_both : (at : List ℕ) (b : Blame) → blame_under at (blame_under [] b) ≡ blame_under at b
under_both at blame.Nothing = refl
under_both at (blame.Pointer p) = refl
under_both at (blame.Parameter p) = refl
under_both at (blame.Header p) = refl

-- a refusal that was told without a pointer of its operation
pub refusal_under-both : (at : List ℕ) (r : Refusal) → refusal_under at (refusal_under [] r) ≡ refusal_under at r
refusal_under-both at r = ap (λ (b : Blame). record r { blame = b }) (under_both at r.blame)

-- ---- outcomes

-- an operation that is done in a world
pub record IsChanged {V : Type 0} (schema : Schema) (operation : Operation) (key : Option Key) (lids later : Lids) (w now : World) (after : Recording V) : Type 0 where
  pub changed : Changed
  pub is : apply schema now operation lids ≡ Ok changed
  pub key_is : key ≡ changed.key
  pub lids_are : later ≡ changed.lids
  pub leads : Leads (cell_at schema w) after.writes (cell_at schema changed.world)

module _ {V : Type 0} (schema : Schema) (lids later : Lids) (w : World) (after : Recording V) where
  outcome_done : (o : Result Changed Refusal) (key : Option Key) → IsOutcome schema [] o (read.Good key) later w after
      → (changed : Changed) × (o ≡ Ok changed) × (key ≡ changed.key) × (later ≡ changed.lids) × Leads (cell_at schema w) after.writes (cell_at schema changed.world)
  outcome_done (Ok changed) key is = (changed, refl, is.0, is.1, is.2)
  outcome_done (Err e) key is = absurd is

  pub outcome_refused : (o : Result Changed Refusal) (r : Refusal) → IsOutcome schema [] o (read.Refused r) later w after → (e : Refusal) × (o ≡ Err e) × (r ≡ refusal_under [] e)
  outcome_refused (Ok changed) r is = absurd is
  outcome_refused (Err e) r is = (e, refl, is)

module _ {V : Type 0} (schema : Schema) (cells : V → Cells) (operation : Operation) (lids later : Lids) (key : Option Key) (a b : Recording V) (tells : TellsChange schema cells [] operation lids later a b (read.Good key)) where
  pub is_changed : (w now : World) → StandsBehind schema (cells a.store) b.reads w now → Leads (cell_at schema w) a.writes (cell_at schema now) → IsChanged schema operation key lids later w now b
  is_changed w now behind leads =
      let is = outcome_done schema lids later w b (apply schema now operation lids) key (tells w now behind leads) in
      record { changed = is.0; is = is.1; key_is = is.2; lids_are = is.3; leads = is.4 }

  module _ (shown : Option Key) (c : Recording V) (looks : LooksAt (is_row_in (keys_of shown)) b c) where
    -- what both looked at lies in the reach of the operation
    pub reads_both : ((k : CellKey) → IsTrue (is_row_in (keys_of shown) k) → IsTrue (is_row_in (keys_of key) k)) → ReadsInReach schema cells operation lids a b → ReadsInReach schema cells operation lids a c
    reads_both sub reads w now valid same now_valid leads k new old = by (covers b.reads k) refl
      where
        by : (m : Bool) → covers b.reads k ≡ m → IsTrue (reach_operation now lids operation k)
        by true is = reads w now valid same now_valid leads k is old
        by false is =
            let done = is_changed w now (record { valid = valid; agrees = λ j e. same j; now_valid = now_valid }) leads in
            key_in_reach schema now lids operation done.changed key k done.is done.key_is (sub k (looks.within k new is))

    -- what the look sees is so in the world after the operation
    pub sees_changed : (P : World → Type 0) → FitsOperation schema operation → Follows a b → Sees schema cells b c P
        → (w now : World) → StandsBehind schema (cells a.store) c.reads w now → Leads (cell_at schema w) a.writes (cell_at schema now)
        → (done : IsChanged schema operation key lids later w now b) × P done.changed.world × Leads (cell_at schema w) c.writes (cell_at schema done.changed.world)
    sees_changed P fits follows sees w now behind leads =
        let done = is_changed w now (stands_before schema cells a b c w now looks.follows behind) leads in
        let valid = changed_valid schema now lids operation done.changed behind.now_valid fits done.is in
        let stands : StandsBehind schema (cells b.store) c.reads w done.changed.world = record {
          valid = behind.valid;
          agrees = λ k e. behind.agrees k e ∙ ap (λ (s : V). cells s k) (sym follows.store);
          now_valid = valid;
        } in (
          done,
          sees w done.changed.world stands done.leads,
          subst (λ (ws : List Written). Leads (cell_at schema w) ws (cell_at schema done.changed.world)) (sym looks.writes) done.leads,
        )
