use Rattle.std.proofs.Common.{◌≤◌, ◌-◌, length}
use Rattle.view_reads.specs.Places.{IsFrom}
use Rattle.view_reads.proofs.Places.{IsUpTo}
use Rattle.view_reads.proofs.writes.place_of.Given as goal

abbrev pub invariant-loop-low : goal.invariant-loop-low
invariant-loop-low l = record {
  ordered : l.low ≤ l.high;
  within : l.high ≤ length l.writes;
  behind : IsFrom l.writes l.key l.low;
  before : IsUpTo l.writes l.key l.high;
}

abbrev pub decreases-loop-low : goal.decreases-loop-low
decreases-loop-low l = l.high - l.low
