use Rattle.include_walk.proofs.Adding.{adds_nothing, adds_id_more}
use Rattle.include_walk.proofs.links.insert_ids.Goals as goal

pub loop-id-init : goal.loop-id-init
loop-id-init c = adds_nothing c.args.keys.now.keys

pub loop-id-preserved : goal.loop-id-preserved
loop-id-preserved c = adds_id_more c.args.keys.now.keys c.loop-id.keys.keys c.insert.new.set.keys c.args.kind c.args.ids.now c.loop-id.id-index c.id-item.result c.loop-id-test.true c.id-item.is c.loop-id.invariant c.in_ok-insert.ensures
