-- The text of the results of a list, as it grows.
use Rattle.std.specs.Prelude.{if◌then◌else◌, ℕ, Bool, true, false, List, [], ◌∷◌, ◌++◌, Option, Some, None, codes}
use Rattle.std.specs.Option.{option_map_or}
use Rattle.serde_json.specs.Data.{Data, array}
use Rattle.serde_json.specs.View.{items_of}
use Rattle.serde_json.specs.Written.{comma_if, compact_text}
use Rattle.ident_rules.specs.declared.key.Key.{Key}
use Rattle.resource_schema.specs.declared.schema.Schema.{Schema}
use Rattle.world_cells.specs.declared.rows.Row.{Row}
use Rattle.task_forms.specs.declared.operations.Operation.{Operation}
use Rattle.error_objects.specs.ErrorReply.{only}
use Rattle.store_model.specs.Answer.{is_create, result_data}
use Rattle.json_texts.specs.Drafts.{DraftText, Leaves}
use Rattle.document_texts.specs.Texts.{items_left}

-- the key whose row the result of an operation shows, of the key that the operation answered
abbrev pub result_key : Operation → Option Key → Option Key
result_key operation key = if is_create operation then key else None

abbrev pub keys_of : Option Key → List Key
keys_of key = option_map_or (λ k. k ∷ []) key []

-- the result of an operation as an item of the array, with the row that it created
abbrev pub result_text : Schema → Bool → Option Row → List ℕ
result_text schema later created = comma_if later ++ compact_text (result_data schema true created)

-- the document with these results
abbrev pub list_data : List Data → Data
list_data results = only (codes "atomic:results") (array (items_of results))

-- what is left of its text, from a result on
abbrev pub list_left : Bool → List Data → List ℕ
list_left later results = items_left later results ++ codes "}"

-- The draft has the results so far: whatever results are to come, with them it has the whole text.
abbrev pub IsDraftOf : DraftText → Bool → List Data → Type 0
IsDraftOf draft later done = (more : List Data) → Leaves (Some []) draft (list_left later more) (codes "{\"atomic:results\":[" ++ list_left false (done ++ more))
