use Rattle.std.proofs.Common.{sym, ap, ◌∙◌, arith}
use Rattle.world_cells.specs.declared.sets.Written.{Written}
use Rattle.view_reads.specs.Sides.{is_passed}
use Rattle.view_reads.proofs.Splits.{passed_to, left_from}
use Rattle.view_reads.proofs.writes.passed.Goals as goal

pub loop-low-preserved-then-is_passed : goal.loop-low-preserved-then-is_passed
loop-low-preserved-then-is_passed c = record {
  ordered = omega arith;
  within = c.loop-low.invariant.within;
  passed = passed_to c.args.whole c.args.span.now c.args.writes.now _ c.written_at.result.now (omega arith) c.requires (ap (λ (w : Written). is_passed c.args.whole c.args.span.now w.key) (sym c.written_at.ensures) ∙ sym c.is_passed.ensures ∙ c.if-is_passed.true);
  left = c.loop-low.invariant.left;
}

pub loop-low-preserved : goal.loop-low-preserved
loop-low-preserved c = record {
  ordered = omega arith;
  within = omega arith;
  passed = c.loop-low.invariant.passed;
  left = left_from c.args.whole c.args.span.now c.args.writes.now _ c.written_at.result.now (omega arith) c.requires (ap (λ (w : Written). is_passed c.args.whole c.args.span.now w.key) (sym c.written_at.ensures) ∙ sym c.is_passed.ensures ∙ c.if-is_passed.false);
}
