-- The items of an array.
use Rattle.std.proofs.Common.{◌≡◌, ℕ, List, map, drop, Some, ap, sym}
use Rattle.std.specs.List.{enumerate_from}
use Rattle.serde_json.specs.Data.{Data}
use Rattle.serde_json.specs.Find.{as_array}
use Rattle.serde_json.specs.View.{view, items_of}
use Rattle.serde_json.specs.declared.value.Value.{Value}
use Rattle.resource_schema.specs.declared.schema.Schema.{Schema}
use Rattle.request_model.specs.ReadingLaws.{items_list-items_of}
use Rattle.request_model.specs.Documents.{many_linkage}
use Rattle.resource_reader.specs.Arrays.{items_linkage}

-- the items from a place on, with their places
abbrev pub placed : List Value → ℕ → List (ℕ × Data)
placed values i = enumerate_from i (map view (drop i values))

pub many_linkage-items : (schema : Schema) (kind : ℕ) (at : List ℕ) (d : Data) (ds : List Data) → Some (items_of ds) ≡ as_array d → many_linkage schema kind at d ≡ items_linkage schema kind at ds
many_linkage-items schema kind at d ds e = rw (sym e) (ap (items_linkage schema kind at) (items_list-items_of ds))
