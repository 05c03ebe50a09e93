use Rattle.std.proofs.Common.{◌≡◌, take}
use Rattle.resource_schema.proofs.kinds.copy_attributes.Given as goal

-- what was copied so far
abbrev pub invariant-loop-attribute : goal.invariant-loop-attribute
invariant-loop-attribute l = l.copies.items ≡ take l.attribute-index l.attributes
