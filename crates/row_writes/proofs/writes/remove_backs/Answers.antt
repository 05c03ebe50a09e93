use Rattle.std.proofs.Common.{◌∙◌, sym, None}
use Rattle.row_writes.proofs.Backs.{wrote_more, wrote_same}
use Rattle.row_writes.proofs.writes.remove_backs.Goals as goal
use Rattle.row_writes.proofs.writes.remove_backs.Goals.{then-not-contains+in_ok-remove, else-not-contains}

pub loop-id-preserved : goal.loop-id-preserved
loop-id-preserved g c =
    elim c.if-not-contains.branch [
      | then-not-contains+in_ok-remove w ↦ rw w.recorder-is (record {
        leaves = record {
          store = w.in_ok-remove.ensures.ok.0 ∙ c.loop-id.invariant.leaves.store;
          reads = w.in_ok-remove.ensures.ok.1 ∙ c.loop-id.invariant.leaves.reads;
        };
        backs = wrote_more c.args.kind c.args.from.now c.args.rel c.args.ids.now c.args.kept.now None _ _ _ c.loop-id.id-index c.id-item.result c.loop-id-test.true c.id-item.is
            (sym c.contains.ensures.value ∙ w.if-not-contains.true) _ w.back_from.ensures w.in_ok-remove.ensures.ok.2 c.loop-id.invariant.backs;
      })
      | else-not-contains w ↦ rw w.recorder-is (record {
        leaves = c.loop-id.invariant.leaves;
        backs = wrote_same c.args.kind c.args.from.now c.args.rel c.args.ids.now c.args.kept.now None _ _ c.loop-id.id-index c.id-item.result c.loop-id-test.true c.id-item.is
            (sym c.contains.ensures.value ∙ w.if-not-contains.false) c.loop-id.invariant.backs;
      })
    ]
