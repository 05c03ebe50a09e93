-- The store's tasks keep what every subject keeps: among it, that a fit task keeps a valid world valid.
use Rattle.std.proofs.lemmas.Bool.{and_from}
use Rattle.std.proofs.Common.{◌≡◌, ℕ, ◌+◌, ◌≤◌, List, [], ◌∷◌, Bool, true, false, refl, sym, ap, subst, ◌∙◌, Some, None, Option, arith}
use Rattle.std.specs.Prelude.{⊤, ◌&&◌, not, cond, length, is_some, Result, Ok, Err}
use Rattle.std.specs.Option.{option_map_or, option_and_then}
use Rattle.std.specs.List.{AllByRecursion, list_any, range_with_len}
use Rattle.std.specs.FinMap.Entries.{is_sorted-where_key}
use Rattle.ident_rules.specs.declared.key.Key.{Key}
use Rattle.resource_schema.specs.declared.schema.Schema.{Schema}
use Rattle.world_cells.specs.declared.rows.Row.{Row}
use Rattle.world_cells.specs.declared.keys.CellKey.{CellKey}
use Rattle.world_cells.specs.declared.keys.CellKey.TheVariants as cell_key
use Rattle.task_forms.specs.declared.operations.Who.{Who}
use Rattle.error_objects.specs.declared.refusals.Refusal.{Refusal}
use Rattle.task_forms.specs.declared.tasks.ReplyForm.{ReplyForm}
use Rattle.task_forms.specs.declared.tasks.ReplyForm.TheVariants as reply_form
use Rattle.task_forms.specs.declared.tasks.Task.{Task}
use Rattle.task_forms.specs.declared.tasks.Task.TheVariants as task
use Rattle.error_objects.specs.declared.codes.Code.TheVariants as code
use Rattle.task_forms.specs.declared.operations.Operation.{Operation}
use Rattle.task_forms.specs.declared.operations.Operation.TheVariants.{Create, Update, Remove, SetLinks, AddLinks, DropLinks}
use Rattle.ident_rules.specs.Key.{key_cmp, same_key, key_is}
use Rattle.world_cells.specs.World.{World, empty_world, row_at, cell_at, links_to}
use Rattle.store_model.specs.Valid.{IsValidRow, IsValid}
use Rattle.store_model.specs.Change.{Lids, key_of, at_target, when, refused, done, outcome, refuse_target, is_referenced, without_row}
use Rattle.store_model.specs.Run.{Ran, run, run_from, and_then, after_one, operation_pointer}
use Rattle.store_model.specs.Answer.{answer, effect, run_world, run_reply, done_reply, results_reply, results_data, is_create}
use Rattle.serde_json.specs.Data.{Data}
use Rattle.task_forms.specs.Fit.{FitsOperation, IsFit}
use Rattle.task_forms.specs.Meaning.{IsLawful}
use Rattle.store_model.specs.StoreMeaning.{meaning_of}
use Rattle.store_model.proofs.Links.{first_none, when_none}
use Rattle.store_model.proofs.Keeps.{create_keeps, update_keeps}
use Rattle.store_model.proofs.LinkChanges.{set_keeps, add_keeps, drop_keeps}
use Rattle.store_model.specs.LinkLaws.{link_somewhere, find_in, passes}
use Rattle.store_model.specs.CellLaws.{row-without_row}

-- ---- a row that is taken away

module _ (schema : Schema) (w : World) (key : Key) where
  -- a row that is left, and leads to the one that goes
  referenced : (k : Key) (row : Row) (rel : ℕ) → row_at w k ≡ Some row → same_key key k ≡ false → links_to schema row rel key ≡ true → is_referenced schema w key ≡ true
  referenced k row rel is apart leads =
      let found = find_in k w.rows row is in
      passes (λ e. not (same_key key e.0) && list_any (λ rel. links_to schema e.1 rel key) (range_with_len 0 (length e.1.links))) w.rows (found.0, row) found.1
      (and_from (not (same_key key found.0)) (list_any (λ rel. links_to schema row rel key) (range_with_len 0 (length row.links))) (subst (λ q. not (same_key key q) ≡ true) found.2 (ap not apart)) (link_somewhere schema row rel key leads))

  pub without_keeps : IsValid schema w → is_referenced schema w key ≡ false → IsValid schema (without_row w key)
  without_keeps valid free = record {
    rows_sorted = is_sorted-where_key key_cmp (λ k. not (same_key key k)) w.rows valid.rows_sorted;
    counters_sorted = valid.counters_sorted;
    counters = valid.counters;
    rows = λ k row is.
        elim (same_key key k) as (λ b. same_key key k ≡ b → cond (not b) (row_at w k) None ≡ Some row → IsValidRow schema (without_row w key) k row) [
          | true ↦ λ same e. cc
          | false ↦ λ apart e. let own = valid.rows k row e in record {
            own_key = own.own_key;
            known = own.known;
            values = own.values;
            links = own.links;
            leads_to_rows = λ rel to leads. subst (λ o. is_some o ≡ true) (sym (row-without_row w key to)) (
                elim (same_key key to) as (λ b. same_key key to ≡ b → is_some (cond (not b) (row_at w to) None) ≡ true) [
                  | true ↦ λ same. let taken = referenced k row rel e apart (subst (λ q. links_to schema row rel q ≡ true) (sym (key_is key to same)) leads) in cc
                  | false ↦ λ other. own.leads_to_rows rel to leads
                ] refl);
            counted = own.counted;
          }
        ] refl (sym (row-without_row w key k) ∙ is);
  }

pub remove_keeps : (schema : Schema) (w : World) (lids : Lids) (who : Who) → IsValid schema w → refused schema w lids (Remove who) ≡ None → IsValid schema ((done schema w lids (Remove who)).world)
remove_keeps schema w lids who valid none =
    let parts = first_none (refuse_target w lids who) (when (option_map_or (is_referenced schema w) (key_of lids who.named) false) (at_target code.StillReferenced who []) ∷ []) none in
    let more = first_none (when (option_map_or (is_referenced schema w) (key_of lids who.named) false) (at_target code.StillReferenced who [])) [] parts.1 in
    by (key_of lids who.named) (when_none (option_map_or (is_referenced schema w) (key_of lids who.named) false) (at_target code.StillReferenced who []) more.0)
  where
    by : (o : Option Key) → option_map_or (is_referenced schema w) o false ≡ false → IsValid schema (option_map_or (without_row w) o w)
    by None e = valid
    by (Some key) e = without_keeps schema w key valid e

-- ---- operations and lists

pub operation_keeps : (schema : Schema) (w : World) (lids : Lids) (operation : Operation) → IsValid schema w → FitsOperation schema operation → refused schema w lids operation ≡ None → IsValid schema ((done schema w lids operation).world)
operation_keeps schema w lids (Create kind id lid values links) valid fits none = create_keeps schema w lids kind lid values links id valid fits none
operation_keeps schema w lids (Update who values links) valid fits none = update_keeps schema w lids who values links valid fits none
operation_keeps schema w lids (Remove who) valid fits none = remove_keeps schema w lids who valid none
operation_keeps schema w lids (SetLinks who rel members) valid fits none = set_keeps schema w lids who rel members valid fits none
operation_keeps schema w lids (AddLinks who rel members) valid fits none = add_keeps schema w lids who rel members valid fits none
operation_keeps schema w lids (DropLinks who rel members) valid fits none = drop_keeps schema w lids who rel members valid

abbrev pub EndsValid : Schema → Result Ran Refusal → Type 0
EndsValid schema (Ok ran) = IsValid schema ran.world
EndsValid schema (Err refusal) = ⊤

after_one_valid : (schema : Schema) (row : Option Row) (r : Result Ran Refusal) → EndsValid schema r → EndsValid schema (after_one row r)
after_one_valid schema row (Ok ran) h = h
after_one_valid schema row (Err refusal) h = h

pub run_keeps : (schema : Schema) (form : ReplyForm) (i : ℕ) (w : World) (lids : Lids) (operations : List Operation) → IsValid schema w → AllByRecursion (FitsOperation schema) operations → EndsValid schema (run_from schema form i w lids operations)
run_keeps schema form i w lids [] valid fits = valid
run_keeps schema form i w lids (operation ∷ operations) valid fits =
    elim (refused schema w lids operation) as (λ o. refused schema w lids operation ≡ o → EndsValid schema (and_then (operation_pointer form i) (outcome o (done schema w lids operation)) (λ changed. run_from schema form (i + 1) changed.world changed.lids operations))) [
      | None ↦ λ none. after_one_valid schema (option_and_then (row_at ((done schema w lids operation).world)) ((done schema w lids operation).key)) (run_from schema form (i + 1) ((done schema w lids operation).world) ((done schema w lids operation).lids) operations)
          (run_keeps schema form (i + 1) ((done schema w lids operation).world) ((done schema w lids operation).lids) operations (operation_keeps schema w lids operation valid fits.0 none) fits.1)
      | Some refusal ↦ λ e. tt
    ] refl

world_valid : (schema : Schema) (w : World) (r : Result Ran Refusal) → IsValid schema w → EndsValid schema r → IsValid schema (run_world w r)
world_valid schema w (Ok ran) valid h = h
world_valid schema w (Err refusal) valid h = valid

pub effect_keeps : (schema : Schema) (w : World) (t : Task) → IsValid schema w → IsFit schema t → IsValid schema (effect schema w t)
effect_keeps schema w (task.Fetch fetch) valid fit = valid
effect_keeps schema w (task.Change operations form) valid fit = world_valid schema w (run schema form w operations) valid (run_keeps schema form 0 w [] operations valid fit.0)

-- ---- errors, and the empty world

results_are_no_error : (b : Bool) (d : Data) → 400 ≤ (results_reply b d).status → ⊥
results_are_no_error true d h = omega arith
results_are_no_error false d h = omega arith

done_is_no_error : (schema : Schema) (form : ReplyForm) (operations : List Operation) (rows : List (Option Row)) → 400 ≤ (done_reply schema form operations rows).status → ⊥
done_is_no_error schema reply_form.Created operations rows h = omega arith
done_is_no_error schema reply_form.Updated operations rows h = omega arith
done_is_no_error schema reply_form.Empty operations rows h = omega arith
done_is_no_error schema reply_form.Results operations rows h = results_are_no_error (list_any is_create operations) (results_data schema operations rows) h

error_stays : (schema : Schema) (w : World) (form : ReplyForm) (operations : List Operation) (r : Result Ran Refusal) → 400 ≤ (run_reply schema form operations r).status → run_world w r ≡ w
error_stays schema w form operations (Ok ran) h = absurd (done_is_no_error schema form operations ran.rows h)
error_stays schema w form operations (Err refusal) h = refl

empty_valid : (schema : Schema) → IsValid schema empty_world
empty_valid schema = record {
  rows_sorted = tt;
  counters_sorted = tt;
  rows = λ k row e. cc;
  counters = λ kind n e. cc;
}

nothing_there : (schema : Schema) (k : CellKey) → cell_at schema empty_world k ≡ None
nothing_there schema (cell_key.Row k) = refl
nothing_there schema (cell_key.Back to from rel) = refl
nothing_there schema (cell_key.Counter kind) = refl

same_after_error : (schema : Schema) (w : World) (t : Task) → 400 ≤ (answer schema w t).status → effect schema w t ≡ w
same_after_error schema w (task.Fetch fetch) h = refl
same_after_error schema w (task.Change operations form) h = error_stays schema w form operations (run schema form w operations) h

pub store_lawful : (schema : Schema) → IsLawful (meaning_of schema)
store_lawful schema = record {
  begins = empty_valid schema;
  nothing = nothing_there schema;
  keeps = effect_keeps schema;
  fetch_changes_nothing = λ w fetch. refl;
  error_changes_nothing = same_after_error schema;
}
