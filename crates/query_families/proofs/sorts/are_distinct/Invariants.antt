use Rattle.std.proofs.Common.{◌≡◌, map, length}
use Rattle.request_model.specs.Queries.{are_distinct}
use Rattle.query_families.proofs.sorts.are_distinct.Given as goal

abbrev pub invariant-loop-left : goal.invariant-loop-left
invariant-loop-left l = are_distinct (map (λ k. k.attribute) l.keys) ≡ are_distinct (map (λ k. k.attribute) l.left)

abbrev pub decreases-loop-left : goal.decreases-loop-left
decreases-loop-left l = length l.left
