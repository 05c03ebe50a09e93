use Rattle.std.proofs.Common.{ap, ◌∙◌, map, Some}
use Rattle.serde_json.specs.View.{view, items_of}
use Rattle.operation_reader.proofs.Items.{array_operations-items}
use Rattle.operation_reader.proofs.lists.array_operations.Goals as goal

pub returns-in-Some : goal.returns-in-Some
returns-in-Some c =
    rw (array_operations-items c.args.schema.now (view c.args.value.now) (map view c.deref.result.now) (ap (λ vs. Some (items_of (map view vs))) c.deref.ensures.value ∙ c.in-Some.ensures)) c.read_array.ensures
