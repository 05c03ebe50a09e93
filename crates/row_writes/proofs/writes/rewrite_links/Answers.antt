use Rattle.std.proofs.Common.{◌∙◌}
use Rattle.row_writes.proofs.Leading.{rewrote_more}
use Rattle.row_writes.proofs.writes.rewrite_links.Goals as goal

pub loop-rel-preserved : goal.loop-rel-preserved
loop-rel-preserved g c = record {
  leaves = record {
    store = c.rewrite_link.ensures.leaves.store ∙ c.loop-rel.invariant.leaves.store;
    reads = c.rewrite_link.ensures.leaves.reads ∙ c.loop-rel.invariant.leaves.reads;
  };
  links = rewrote_more c.args.schema.now c.args.key.now c.args.old.now c.args.new.now c.loop-rel.rel c.target_of-target.result _ _ _ _ _
      c.target_of-target.ensures c.ids_at-left.ensures c.ids_at-led.ensures c.loop-rel.invariant.links c.in_ok-rewrite_link.ensures.backs;
}
