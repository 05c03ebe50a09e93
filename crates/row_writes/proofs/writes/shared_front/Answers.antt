use Rattle.std.proofs.Common.{◌∙◌, sym, arith}
use Rattle.row_writes.proofs.Backs.{shared_more}
use Rattle.row_writes.proofs.writes.shared_front.Goals as goal

pub loop-count-preserved : goal.loop-count-preserved
loop-count-preserved c = record {
  left = omega arith;
  right = omega arith;
  same = shared_more c.args.left.now c.args.right.now c.loop-count.count c.index-left-count.result c.index-right-count.result
      c.loop-count-test.true c.if-count-right.true c.index-left-count.is c.index-right-count.is (sym c.eq.ensures ∙ c.if-eq.true) c.loop-count.invariant.same;
}
