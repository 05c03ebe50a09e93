-- The items of the list.
use Rattle.std.proofs.Common.{◌≡◌, ℕ, List, map, drop, Some, ap, sym}
use Rattle.std.specs.List.{enumerate_from}
use Rattle.serde_json.specs.Data.{Data}
use Rattle.serde_json.specs.Find.{as_array}
use Rattle.serde_json.specs.View.{view, items_of}
use Rattle.serde_json.specs.declared.value.Value.{Value}
use Rattle.resource_schema.specs.declared.schema.Schema.{Schema}
use Rattle.request_model.specs.ReadingLaws.{items_list-items_of}
use Rattle.operation_reader.specs.Parts.{array_operations, items_operations}

-- the items from a place on, with their places
abbrev pub placed : List Value → ℕ → List (ℕ × Data)
placed values i = enumerate_from i (map view (drop i values))

pub array_operations-items : (schema : Schema) (d : Data) (ds : List Data) → Some (items_of ds) ≡ as_array d → array_operations schema d ≡ items_operations schema ds
array_operations-items schema d ds e = rw (sym e) (ap (items_operations schema) (items_list-items_of ds))
