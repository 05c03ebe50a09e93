use Rattle.std.proofs.Common.{◌∙◌, ap, sym, arith}
use Rattle.world_cells.specs.declared.sets.Written.{Written}
use Rattle.world_cells.specs.Reads.{in_span}
use Rattle.view_reads.proofs.Puts.{first_met, first_past, first_none}
use Rattle.view_reads.proofs.Splits.{first_start, first_gone, in_put}
use Rattle.view_reads.proofs.writes.first_put.Goals as goal

pub loop-at-init : goal.loop-at-init
loop-at-init c = record { from = omega arith; within = c.passed-at.ensures.within; first = first_start _ _ _ c.requires c.passed-at.ensures }

pub returns-then-not-in_span : goal.returns-then-not-in_span
returns-then-not-in_span c =
    first_gone _ _ c.passed-at.result c.loop-at.at c.written_at-written.result.now c.loop-at-test.true c.loop-at.invariant.from c.requires c.passed-at.ensures
    (ap (λ (w : Written). in_span c.args.span.now w.key) (sym c.written_at-written.ensures) ∙ sym c.in_span.ensures ∙ c.if-not-in_span.true) c.loop-at.invariant.first

pub returns-in-Some : goal.returns-in-Some
returns-in-Some c =
    first_met _ _ c.loop-at.at c.written_at-written.result.now c.loop-at-test.true c.requires (c.in-Some.put.0.now, c.in-Some.put.1.now)
    (in_put c.args.writes.now c.args.span.now c.loop-at.at c.written_at-written.result.now _ c.written_at-written.ensures (sym c.in_span.ensures ∙ c.if-not-in_span.false) c.in-Some.ensures) c.loop-at.invariant.first

pub loop-at-preserved : goal.loop-at-preserved
loop-at-preserved c = record {
  from = omega arith;
  within = omega arith;
  first = first_past _ _ c.loop-at.at c.written_at-written.result.now c.loop-at-test.true c.requires
      (in_put c.args.writes.now c.args.span.now c.loop-at.at c.written_at-written.result.now _ c.written_at-written.ensures (sym c.in_span.ensures ∙ c.if-not-in_span.false) c.in_default.ensures) c.loop-at.invariant.first;
}

pub returns : goal.returns
returns c = first_none _ _ c.loop-at.at (omega arith) c.loop-at.invariant.first
