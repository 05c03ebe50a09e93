-- The row that an operation leaves lies in its reach.
use Rattle.std.proofs.Common.{◌≡◌, Bool, true, false, [], ◌∷◌, Option, None, refl, sym, ap, subst, ◌∙◌}
use Rattle.std.specs.Prelude.{if◌then◌else◌, IsTrue, Ok}
use Rattle.std.specs.Option.{option_and_then}
use Rattle.std.proofs.lemmas.Bool.{or_left}
use Rattle.ident_rules.specs.declared.key.Key.{Key}
use Rattle.resource_schema.specs.declared.schema.Schema.{Schema}
use Rattle.world_cells.specs.declared.keys.CellKey.{CellKey}
use Rattle.world_cells.specs.declared.keys.CellKey.TheVariants as cell_key
use Rattle.world_cells.specs.World.{World, row_at}
use Rattle.task_forms.specs.declared.operations.Operation.{Operation}
use Rattle.task_forms.specs.declared.operations.Operation.TheVariants.{Create, Update, Remove, SetLinks, AddLinks, DropLinks}
use Rattle.store_model.specs.Answer.{is_create, result_data}
use Rattle.store_model.specs.Change.{Lids, Changed, apply, bind, created_key, done, refused}
use Rattle.store_model.specs.Reach.{is_row_in, linked_keys, reach_operation, target_keys}
use Rattle.trial_steps.specs.StepLaws.{row_in_left}
use Rattle.operation_run.specs.Texts.{keys_of, result_key}
use Rattle.operation_run.proofs.Reached.{outcome_ok}

no_row : (k : CellKey) → IsTrue (is_row_in [] k) → ⊥
no_row (cell_key.Row k) e = cc e
no_row (cell_key.Back to from rel) e = cc e
no_row (cell_key.Counter n) e = cc e

left_key : (schema : Schema) (now : World) (lids : Lids) (operation : Operation) (k : CellKey) → IsTrue (is_row_in (keys_of ((done schema now lids operation).key)) k) → IsTrue (reach_operation now lids operation k)
left_key schema now lids (Create kind id lid values links) k e =
    let key = created_key now kind id in
    or_left _ _ (row_in_left (key ∷ []) (linked_keys (bind lids kind lid key.id) links) k e)
left_key schema now lids (Update who values links) k e = row_in_left (target_keys lids who) (linked_keys lids links) k e
left_key schema now lids (Remove who) k e = absurd (no_row k e)
left_key schema now lids (SetLinks who rel members) k e = absurd (no_row k e)
left_key schema now lids (AddLinks who rel members) k e = absurd (no_row k e)
left_key schema now lids (DropLinks who rel members) k e = absurd (no_row k e)

-- of the key that an operation answers
pub key_in_reach : (schema : Schema) (now : World) (lids : Lids) (operation : Operation) (changed : Changed) (key : Option Key) (k : CellKey) → apply schema now operation lids ≡ Ok changed → key ≡ changed.key
    → IsTrue (is_row_in (keys_of key) k) → IsTrue (reach_operation now lids operation k)
key_in_reach schema now lids operation changed key k is named e =
    let parts = outcome_ok (refused schema now lids operation) (done schema now lids operation) changed is in
    left_key schema now lids operation k (subst (λ (o : Option Key). IsTrue (is_row_in (keys_of o) k)) (named ∙ ap (λ (c : Changed). c.key) (sym parts.1)) e)

-- and of the key that it created
pub created_in : (operation : Operation) (key : Option Key) (k : CellKey) → IsTrue (is_row_in (keys_of (result_key operation key)) k) → IsTrue (is_row_in (keys_of key) k)
created_in operation key k = by (is_create operation)
  where
    by : (b : Bool) → IsTrue (is_row_in (keys_of (if b then key else None)) k) → IsTrue (is_row_in (keys_of key) k)
    by true e = e
    by false e = absurd (no_row k e)

-- the result of an operation shows the row that it created
pub created_result : (schema : Schema) (w : World) (operation : Operation) (key : Option Key)
    → result_data schema true (option_and_then (row_at w) (result_key operation key)) ≡ result_data schema (is_create operation) (option_and_then (row_at w) key)
created_result schema w operation key = by (is_create operation)
  where
    by : (b : Bool) → result_data schema true (option_and_then (row_at w) (if b then key else None)) ≡ result_data schema b (option_and_then (row_at w) key)
    by true = refl
    by false = refl
