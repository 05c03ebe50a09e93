use Rattle.std.proofs.Common.{ap, ◌∙◌, map, Some}
use Rattle.serde_json.specs.View.{view, items_of}
use Rattle.resource_reader.specs.Spots.{spot_pointer}
use Rattle.resource_reader.proofs.Items.{many_linkage-items}
use Rattle.resource_reader.proofs.linkages.read_to_many.Goals as goal

pub returns-in-Some : goal.returns-in-Some
returns-in-Some c =
    rw (many_linkage-items c.args.schema.now c.args.kind (spot_pointer c.args.spot) (view c.args.value.now) (map view c.deref.result.now) (ap (λ vs. Some (items_of (map view vs))) c.deref.ensures.value ∙ c.in-Some.ensures)) c.read_array.ensures
