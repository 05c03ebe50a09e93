use Rattle.std.proofs.Common.{◌+◌, ◌≤◌, length}
use Rattle.view_reads.proofs.Merges.{IsLeft, keys_in}
use Rattle.view_reads.proofs.merging.first_unwritten.Given as goal

abbrev pub invariant-loop-key : goal.invariant-loop-key
invariant-loop-key g l = record {
  left : IsLeft l.from_top (g.V.View.cells l.view) l.writes l.fn.span l.rest;
  work : l.work.done + keys_in l.rest l.writes ≤ l.fn.work.done + length l.writes;
  rises : l.fn.work.done ≤ l.work.done;
}

abbrev pub decreases-loop-key : goal.decreases-loop-key
decreases-loop-key g l = keys_in l.rest l.writes
