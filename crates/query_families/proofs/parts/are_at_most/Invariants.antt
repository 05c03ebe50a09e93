use Rattle.std.proofs.Common.{◌≡◌, length}
use Rattle.std.specs.Prelude.{nat_le}
use Rattle.query_families.specs.PartsLeft.{parts_left}
use Rattle.query_families.proofs.parts.are_at_most.Given as goal

abbrev pub invariant-loop-part : goal.invariant-loop-part
invariant-loop-part l = nat_le (length (parts_left l.fn.parts)) l.limit ≡ nat_le (length (parts_left l._part-iterator)) l.left
