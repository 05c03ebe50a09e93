use Rattle.std.proofs.Common.{◌≡◌, ℕ, ◌<◌, ◌≤◌, ◌-◌, length, get_or, true, false}
use Rattle.world_cells.specs.declared.sets.Written.{Written}
use Rattle.view_reads.specs.Sides.{is_passed}
use Rattle.view_reads.proofs.writes.passed.Given as goal

abbrev pub invariant-loop-low : goal.invariant-loop-low
invariant-loop-low l = record {
  ordered : l.low ≤ l.high;
  within : l.high ≤ length l.writes;
  passed : (i : ℕ) (d : Written) → i < l.low → is_passed l.whole l.span (get_or l.writes i d).key ≡ true;
  left : (i : ℕ) (d : Written) → l.high ≤ i → i < length l.writes → is_passed l.whole l.span (get_or l.writes i d).key ≡ false;
}

abbrev pub decreases-loop-low : goal.decreases-loop-low
decreases-loop-low l = l.high - l.low
