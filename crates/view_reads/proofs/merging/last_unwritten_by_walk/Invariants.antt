use Rattle.std.specs.Prelude.{◌≤◌}
use Rattle.std.specs.Option.{option_map}
use Rattle.view_reads.specs.Bounds.{IsBoundedBacks}
use Rattle.view_reads.specs.Merging.{unwritten}
use Rattle.view_reads.specs.Recording.{pair_now}
use Rattle.view_reads.proofs.Ranks.{backs_left}
use Rattle.view_reads.proofs.Walks.{IsWalked}
use Rattle.view_reads.proofs.merging.last_unwritten_by_walk.Given as goal

abbrev pub invariant-loop-key : goal.invariant-loop-key
invariant-loop-key g l = record {
  bounded : IsBoundedBacks l.rest;
  walked : IsWalked (unwritten (g.V.View.cells l.view) l.writes) l.fn.span l.rest (option_map pair_now l.last);
  rises : l.fn.work.done ≤ l.work.done;
}

abbrev pub decreases-loop-key : goal.decreases-loop-key
decreases-loop-key g l = backs_left l.rest
