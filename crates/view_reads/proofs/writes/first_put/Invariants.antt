use Rattle.std.proofs.Common.{◌≤◌, ◌-◌, length}
use Rattle.view_reads.proofs.Puts.{FirstOfRest}
use Rattle.view_reads.proofs.writes.first_put.Given as goal

abbrev pub invariant-loop-at : goal.invariant-loop-at
invariant-loop-at l = record {
  from : l.initial.at ≤ l.at;
  within : l.at ≤ length l.writes;
  first : FirstOfRest l.writes l.span l.at;
}

abbrev pub decreases-loop-at : goal.decreases-loop-at
decreases-loop-at l = length l.writes - l.at
