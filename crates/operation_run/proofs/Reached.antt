-- How far a list of operations has come: at first, one operation further, and where it ends.
use Rattle.std.proofs.Common.{◌≡◌, ℕ, ◌+◌, List, [], ◌∷◌, ◌++◌, drop, Option, Some, None, refl, sym, ap, subst, ◌∙◌, append_assoc, append-nil}
use Rattle.std.specs.Prelude.{IsTrue, Result, Ok, Err}
use Rattle.std.specs.Option.{option_and_then}
use Rattle.std.proofs.lemmas.Bool.{or_left, or_right}
use Rattle.serde_json.specs.Data.{Data}
use Rattle.resource_schema.specs.declared.schema.Schema.{Schema}
use Rattle.world_cells.specs.declared.keys.CellKey.{CellKey}
use Rattle.world_cells.specs.declared.rows.Row.{Row}
use Rattle.world_cells.specs.World.{World, row_at}
use Rattle.error_objects.specs.declared.refusals.Refusal.{Refusal}
use Rattle.task_forms.specs.Fit.{FitsOperation}
use Rattle.task_forms.specs.declared.operations.Operation.{Operation}
use Rattle.task_forms.specs.declared.tasks.ReplyForm.TheVariants as reply_form
use Rattle.store_model.specs.Answer.{is_create, result_data}
use Rattle.store_model.specs.Change.{Lids, Changed, apply, done, outcome, refused}
use Rattle.store_model.specs.Reach.{reach_operation, reach_operations, reach_rest}
use Rattle.store_model.specs.Run.{Ran, after_one, and_then, operation_pointer, refusal_under, run, run_from}
use Rattle.store_model.specs.Valid.{IsValid}
use Rattle.store_model.proofs.Lawful.{operation_keeps}
use Rattle.operation_run.specs.Running.{Listed, IsReached, behind, listed, results_of}

-- ---- one operation

-- what is not refused is done
pub outcome_ok : (o : Option Refusal) (c d : Changed) → outcome o c ≡ Ok d → (o ≡ None) × (c ≡ d)
outcome_ok None c d e = (refl, cc)
outcome_ok (Some r) c d e = cc e

pub changed_valid : (schema : Schema) (now : World) (lids : Lids) (operation : Operation) (changed : Changed) → IsValid schema now → FitsOperation schema operation → apply schema now operation lids ≡ Ok changed → IsValid schema changed.world
changed_valid schema now lids operation changed valid fits is =
    let parts = outcome_ok (refused schema now lids operation) (done schema now lids operation) changed is in
    subst (λ (c : Changed). IsValid schema c.world) parts.1 (operation_keeps schema now lids operation valid fits parts.0)

-- ---- lists

listed_one : (schema : Schema) (operation : Operation) (rest : List Operation) (row : Option Row) (r : Result Ran Refusal)
    → listed schema (operation ∷ rest) (after_one row r) ≡ behind (result_data schema (is_create operation) row ∷ []) (listed schema rest r)
listed_one schema operation rest row (Ok ran) = refl
listed_one schema operation rest row (Err e) = refl

behind_none : (r : Result Listed Refusal) → r ≡ behind [] r
behind_none (Ok list) = refl
behind_none (Err e) = refl

behind_both : (a b : List Data) (r : Result Listed Refusal) → behind a (behind b r) ≡ behind (a ++ b) r
behind_both a b (Ok list) = ap (λ (ds : List Data). Ok (record list { results = ds })) (sym (append_assoc a b list.results))
behind_both a b (Err e) = refl

listed_err : (schema : Schema) (operations : List Operation) (r : Result Ran Refusal) (e : Refusal) → listed schema operations r ≡ Err e → r ≡ Err e
listed_err schema operations (Ok ran) e is = cc is
listed_err schema operations (Err x) e is = cc

listed_ok : (schema : Schema) (operations : List Operation) (r : Result Ran Refusal) (list : Listed) → listed schema operations r ≡ Ok list
    → (ran : Ran) × (r ≡ Ok ran) × (ran.world ≡ list.world) × (results_of schema operations ran.rows ≡ list.results)
listed_ok schema operations (Ok ran) list is =
    let same : record { world = ran.world; results = results_of schema operations ran.rows } ≡ list = cc in
    (ran, refl, ap (λ (l : Listed). l.world) same, ap (λ (l : Listed). l.results) same)
listed_ok schema operations (Err x) list is = cc is

-- ---- how far it has come

module _ (schema : Schema) (operations : List Operation) (w : World) where
  pub reached_first : IsValid schema w → IsReached schema operations 0 w w [] []
  reached_first valid = record { valid = valid; runs = behind_none (listed schema operations (run schema reply_form.Results w operations)); reach = λ k e. e }

  module _ (i : ℕ) (now : World) (lids : Lids) (so_far : List Data) (reached : IsReached schema operations i w now lids so_far) where
    module _ (operation : Operation) (split : drop i operations ≡ operation ∷ drop (i + 1) operations) where
      comes_to : (o : Result Changed Refusal) → apply schema now operation lids ≡ o
          → listed schema operations (run schema reply_form.Results w operations)
          ≡ behind so_far (listed schema (operation ∷ drop (i + 1) operations) (and_then (operation_pointer reply_form.Results i) o (λ changed. run_from schema reply_form.Results (i + 1) changed.world changed.lids (drop (i + 1) operations))))
      comes_to o is =
          reached.runs
          ∙ ap (λ (l : List Operation). behind so_far (listed schema l (run_from schema reply_form.Results i now lids l))) split
          ∙ ap (λ (r : Result Changed Refusal). behind so_far (listed schema (operation ∷ drop (i + 1) operations) (and_then (operation_pointer reply_form.Results i) r (λ changed. run_from schema reply_form.Results (i + 1) changed.world changed.lids (drop (i + 1) operations))))) is

      -- what the next operation looks at
      pub reach_next : (k : CellKey) → IsTrue (reach_operation now lids operation k) → IsTrue (reach_operations schema w [] operations k)
      reach_next k e = reached.reach k (subst (λ (l : List Operation). IsTrue (reach_operations schema now lids l k)) (sym split) (or_left _ _ e))

      pub reached_next : (changed : Changed) → FitsOperation schema operation → apply schema now operation lids ≡ Ok changed
          → IsReached schema operations (i + 1) w changed.world changed.lids (so_far ++ result_data schema (is_create operation) (option_and_then (row_at changed.world) changed.key) ∷ [])
      reached_next changed fits is = record {
        valid = changed_valid schema now lids operation changed reached.valid fits is;
        runs =
            let row = option_and_then (row_at changed.world) changed.key in
            let rest = run_from schema reply_form.Results (i + 1) changed.world changed.lids (drop (i + 1) operations) in
            comes_to (Ok changed) is
            ∙ ap (behind so_far) (listed_one schema operation (drop (i + 1) operations) row rest)
            ∙ behind_both so_far (result_data schema (is_create operation) row ∷ []) (listed schema (drop (i + 1) operations) rest);
        reach = λ k e. reached.reach k (
            subst (λ (l : List Operation). IsTrue (reach_operations schema now lids l k)) (sym split)
            (or_right (reach_operation now lids operation k) _ (ap (λ (r : Result Changed Refusal). reach_rest r (λ c. reach_operations schema c.world c.lids (drop (i + 1) operations) k)) is ∙ e)));
      }

      -- the first that is refused
      pub reached_refused : (e : Refusal) → apply schema now operation lids ≡ Err e → run schema reply_form.Results w operations ≡ Err (refusal_under (operation_pointer reply_form.Results i) e)
      reached_refused e is = listed_err schema operations (run schema reply_form.Results w operations) (refusal_under (operation_pointer reply_form.Results i) e) (comes_to (Err e) is)

    -- no operation is left
    pub reached_last : drop i operations ≡ [] → (ran : Ran) × (run schema reply_form.Results w operations ≡ Ok ran) × (ran.world ≡ now) × (results_of schema operations ran.rows ≡ so_far)
    reached_last none =
        let end = listed_ok schema operations (run schema reply_form.Results w operations) (record { world = now; results = so_far ++ [] })
        (reached.runs ∙ ap (λ (l : List Operation). behind so_far (listed schema l (run_from schema reply_form.Results i now lids l))) none) in
        (end.0, end.1, end.2, end.3 ∙ append-nil so_far)
