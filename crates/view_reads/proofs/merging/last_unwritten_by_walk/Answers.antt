use Rattle.std.proofs.Common.{◌<◌, sym, subst, arith}
use Rattle.std.specs.Option.{option_map}
use Rattle.world_cells.specs.declared.spans.Span.{Span}
use Rattle.view_reads.specs.Bounds.{IsBoundedBacks}
use Rattle.view_reads.specs.Recording.{pair_now}
use Rattle.view_reads.proofs.Ranks.{backs_left, fewer_backs, still_bounded}
use Rattle.view_reads.proofs.Walks.{walk_on, walk_end}
use Rattle.view_reads.proofs.merging.last_unwritten_by_walk.Goals as goal

pub loop-key-smaller : goal.loop-key-smaller
loop-key-smaller g c =
    subst (λ (s : Span). backs_left s < backs_left c.loop-key.rest) (sym c.narrowed-rest.ensures)
    (fewer_backs c.loop-key.rest c.in-Some.key.now c.loop-key.invariant.bounded c.bound_key.ensures c.in-Some.ensures.value.0)

pub loop-key-preserved : goal.loop-key-preserved
loop-key-preserved g c = record {
  bounded = subst IsBoundedBacks (sym c.narrowed-rest.ensures) (still_bounded c.loop-key.rest c.in-Some.key.now c.loop-key.invariant.bounded c.bound_key.ensures c.in-Some.ensures.value.0);
  walked = walk_on _ c.args.writes.now c.args.span c.loop-key.rest (option_map pair_now c.loop-key.last) (c.in-Some.key.now, c.in-Some.cell.now) c.narrowed-rest.result (option_map pair_now c.unless_written-last.result)
      c.narrowed-rest.ensures c.unless_written-last.ensures c.loop-key.invariant.walked c.in-Some.ensures.value;
  rises = omega (arith, c.loop-key.invariant.rises, c.in-Some.ensures.rises);
}

pub returns-clause-value : goal.returns-clause-value
returns-clause-value g c = walk_end (g.V.View.cells c.args.view.now) c.args.writes.now c.args.span c.loop-key.rest (option_map pair_now c.loop-key.last) c.loop-key.invariant.walked c.in_default.ensures.value
