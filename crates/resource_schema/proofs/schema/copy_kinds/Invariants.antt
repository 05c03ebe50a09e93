use Rattle.std.proofs.Common.{◌≡◌, take}
use Rattle.resource_schema.proofs.schema.copy_kinds.Given as goal

-- what was copied so far
abbrev pub invariant-loop-kind : goal.invariant-loop-kind
invariant-loop-kind l = l.copies.items ≡ take l.kind-index l.kinds
