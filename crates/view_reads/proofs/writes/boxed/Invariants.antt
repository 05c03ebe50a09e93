use Rattle.std.proofs.Common.{◌≡◌, ◌++◌}
use Rattle.view_reads.proofs.writes.boxed.Given as goal

abbrev pub invariant-loop-written : goal.invariant-loop-written
invariant-loop-written l = l.kept.items ++ l.written-iterator.rest.items ≡ l.fn.writes
