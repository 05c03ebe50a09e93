use Rattle.include_walk.proofs.Adding.{inserted}
use Rattle.include_walk.proofs.key_sets.insert.Goals as goal

pub returns : goal.returns
returns c = inserted c.args.set.now.keys c.insert.new.self.keys c.args.key c.in_ok-insert.ensures.updates.0
