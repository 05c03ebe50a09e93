use Rattle.std.proofs.Common.{sym, subst, ◌∙◌, ◌<◌, arith}
use Rattle.world_cells.specs.declared.spans.Span.{Span}
use Rattle.view_reads.proofs.Merges.{IsLeft, keys_in, left_all, left_late, left_past, fewer_left, written_there, at_most_all, work_step}
use Rattle.view_reads.proofs.merging.first_unwritten.Goals as goal

pub loop-key-init : goal.loop-key-init
loop-key-init g c = record {
  left = left_all c.args.from_top (g.V.View.cells c.args.view.now) c.args.writes.now c.args.span c.requires;
  work = omega (arith, at_most_all c.args.span c.args.writes.now);
  rises = omega arith;
}

pub returns-then-not-is_met_before-clause-value : goal.returns-then-not-is_met_before-clause-value
returns-then-not-is_met_before-clause-value g c =
    left_late _ _ _ _ _ _ (c.in-Some.key.now, c.in-Some.cell.now) c.loop-key.invariant.left c.in-Some.ensures.value (sym c.is_met_before.ensures ∙ c.if-not-is_met_before.true)

pub loop-key-smaller : goal.loop-key-smaller
loop-key-smaller g c =
    let there = written_there c.at.result _ _ c.at.ensures c.if-is_none.ensures in
    subst (λ (s : Span). keys_in s c.args.writes.now < keys_in c.loop-key.rest c.args.writes.now) (sym c.narrowed-rest.ensures)
    (fewer_left c.args.from_top c.loop-key.rest c.args.writes.now c.in-Some.key.now there.0 c.loop-key.invariant.left.can c.in-Some.ensures.value.0 there.1)

pub loop-key-preserved : goal.loop-key-preserved
loop-key-preserved g c =
    let there = written_there c.at.result _ _ c.at.ensures c.if-is_none.ensures in
    let fewer = subst (λ (s : Span). keys_in s c.args.writes.now < keys_in c.loop-key.rest c.args.writes.now) (sym c.narrowed-rest.ensures)
    (fewer_left c.args.from_top c.loop-key.rest c.args.writes.now c.in-Some.key.now there.0 c.loop-key.invariant.left.can c.in-Some.ensures.value.0 there.1) in
    record {
      left = subst (λ (s : Span). IsLeft c.args.from_top (g.V.View.cells c.args.view.now) c.args.writes.now c.args.span s) (sym c.narrowed-rest.ensures)
          (left_past c.args.from_top (g.V.View.cells c.args.view.now) c.args.writes.now c.args.span c.loop-key.rest (c.in-Some.key.now, c.in-Some.cell.now) there.0 c.loop-key.invariant.left c.in-Some.ensures.value there.1);
      work = work_step _ _ _ _ (keys_in c.loop-key.rest c.args.writes.now) (keys_in c.narrowed-rest.result c.args.writes.now) c.in-Some.ensures.work c.loop-key.invariant.work fewer;
      rises = omega (arith, c.loop-key.invariant.rises, c.in-Some.ensures.rises);
    }
