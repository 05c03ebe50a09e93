-- To-many linkages, by the items of their array.
use Rattle.std.specs.Prelude.{ℕ, ◌^◌, nat_le, List, map, length, Result}
use Rattle.std.specs.List.{enumerate_from}
use Rattle.serde_json.specs.Data.{Data}
use Rattle.resource_schema.specs.declared.schema.Schema.{Schema}
use Rattle.task_forms.specs.declared.operations.Member.{Member}
use Rattle.error_objects.specs.declared.refusals.Refusal.{Refusal}
use Rattle.request_model.specs.Words.{all_ok}
use Rattle.request_model.specs.Results.{◌>>◌, err_if}
use Rattle.request_model.specs.Documents.{bad_document, indexed}

abbrev pub items_linkage : Schema → ℕ → List ℕ → List Data → Result (List Member) Refusal
items_linkage schema kind at ds = do
  err_if (nat_le (2 ^ 32) (length ds)) (bad_document at)
  all_ok (map (indexed schema kind at) (enumerate_from 0 ds))
