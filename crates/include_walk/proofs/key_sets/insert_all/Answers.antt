use Rattle.include_walk.proofs.Adding.{adds_nothing, adds_more}
use Rattle.include_walk.proofs.key_sets.insert_all.Goals as goal

pub loop-key-init : goal.loop-key-init
loop-key-init c = adds_nothing c.args.set.now.keys

pub loop-key-preserved : goal.loop-key-preserved
loop-key-preserved c = adds_more c.args.set.now.keys c.loop-key.set.keys c.insert.new.set.keys c.args.keys.now c.loop-key.key-index c.key-item.result c.loop-key-test.true c.key-item.is c.loop-key.invariant c.in_ok-insert.ensures
