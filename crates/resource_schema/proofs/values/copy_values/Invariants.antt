use Rattle.std.proofs.Common.{◌≡◌, take}
use Rattle.resource_schema.proofs.values.copy_values.Given as goal

-- what was copied so far
abbrev pub invariant-loop-value : goal.invariant-loop-value
invariant-loop-value l = l.copies.items ≡ take l.value-index l.values
