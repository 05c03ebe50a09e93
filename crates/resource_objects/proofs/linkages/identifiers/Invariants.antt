use Rattle.std.proofs.Common.{◌≡◌, map, take}
use Rattle.serde_json.specs.View.{view}
use Rattle.resource_objects.specs.Objects.{identifier_of}
use Rattle.resource_objects.proofs.linkages.identifiers.Given as goal

abbrev pub invariant-loop-id : goal.invariant-loop-id
invariant-loop-id l = map view l.values.items ≡ map (identifier_of l.schema l.kind) (take l.id-index l.ids)
