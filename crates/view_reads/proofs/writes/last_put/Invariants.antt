use Rattle.std.proofs.Common.{◌≤◌}
use Rattle.view_reads.proofs.Puts.{LastOfFront}
use Rattle.view_reads.proofs.writes.last_put.Given as goal

abbrev pub invariant-loop-at : goal.invariant-loop-at
invariant-loop-at l = record {
  to : l.at ≤ l.initial.at;
  last : LastOfFront l.writes l.span l.at;
}

abbrev pub decreases-loop-at : goal.decreases-loop-at
decreases-loop-at l = l.at
