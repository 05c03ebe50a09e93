use Rattle.std.proofs.Common.{◌≡◌, get_or, map, take}
use Rattle.resource_schema.specs.declared.values.AttrValue.TheVariants as value
use Rattle.compound_document.proofs.places.place_of.Given as goal

abbrev pub invariant-loop-key : goal.invariant-loop-key
invariant-loop-key l = l.values.items ≡ map (λ key. get_or l.row.values key.attribute value.Null) (take l.key-index l.sort)
