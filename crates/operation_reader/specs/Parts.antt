-- Parts of an operation (Atomic Operations extension, "Operation Objects").
use Rattle.std.specs.Prelude.{ℕ, ◌==◌, not, nat_lt, List, [], codes, decimal, length, map, Result, Ok}
use Rattle.std.specs.Option.{ok_or}
use Rattle.std.specs.List.{enumerate_from}
use Rattle.serde_json.specs.Data.{Data}
use Rattle.serde_json.specs.Find.{get, as_array}
use Rattle.json_forms.specs.Json.{items_list}
use Rattle.json_forms.specs.Pointer.{◌//◌}
use Rattle.document_parts.specs.Pointers.{member_pointer, item_pointer}
use Rattle.error_objects.specs.declared.codes.Code.TheVariants as code
use Rattle.error_objects.specs.declared.refusals.Refusal.{Refusal}
use Rattle.error_objects.specs.Refusals.{at_pointer}
use Rattle.resource_schema.specs.declared.schema.Schema.{Schema}
use Rattle.task_forms.specs.declared.operations.Named.{Named}
use Rattle.task_forms.specs.declared.operations.Operation.{Operation}
use Rattle.task_forms.specs.declared.tasks.TheConstants.{OPERATION_LIMIT}
use Rattle.request_model.specs.Words.{all_ok}
use Rattle.request_model.specs.Results.{◌>>=◌, ◌>>◌, err_if}
use Rattle.request_model.specs.Documents.{bad_document, named_in, keeps_rule}
use Rattle.request_model.specs.OperationLists.{absent, operation_of, list_pointer}

-- what `id` or `lid` of a `ref` names
abbrev pub ref_name : ℕ → List ℕ → Data → Result Named Refusal
ref_name kind at d = do
  name ← ok_or (named_in kind d) (bad_document at)
  err_if (not (keeps_rule name)) (at_pointer code.NotFound (at // codes "id"))
  Ok name

-- the pointer of the operation at a place of the list
unfoldable pub operation_pointer : ℕ → List ℕ
operation_pointer place = item_pointer list_pointer place

-- the pointer of a member of it
abbrev pub part_pointer : ℕ → List ℕ → List ℕ
part_pointer place name = member_pointer (operation_pointer place) name

-- the operation at a place
abbrev pub operation_at : Schema → ℕ × Data → Result Operation Refusal
operation_at schema p = operation_of schema (list_pointer // decimal p.0) p.1

-- the operations of an array
abbrev pub items_operations : Schema → List Data → Result (List Operation) Refusal
items_operations schema ds = do
  err_if (length ds == 0) (bad_document list_pointer)
  err_if (nat_lt OPERATION_LIMIT (length ds)) (at_pointer code.TooManyOperations list_pointer)
  all_ok (map (operation_at schema) (enumerate_from 0 ds))

-- the operations of the value that is to be their array
abbrev pub array_operations : Schema → Data → Result (List Operation) Refusal
array_operations schema d = do
  items ← ok_or (as_array d) (bad_document list_pointer)
  items_operations schema (items_list items)

-- the operations of a document's list
abbrev pub listed_operations : Schema → Data → Result (List Operation) Refusal
listed_operations schema d = do
  found ← ok_or (get (codes "atomic:operations") d) (bad_document [])
  array_operations schema found

-- the same, where some members are not at the top
abbrev pub without_included : Schema → Data → Result (List Operation) Refusal
without_included schema d = do
  absent (codes "included") d
  listed_operations schema d

abbrev pub without_data : Schema → Data → Result (List Operation) Refusal
without_data schema d = do
  absent (codes "data") d
  without_included schema d

abbrev pub without_results : Schema → Data → Result (List Operation) Refusal
without_results schema d = do
  absent (codes "atomic:results") d
  without_data schema d
