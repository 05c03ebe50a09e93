use Rattle.include_walk.proofs.Adding.{removed}
use Rattle.include_walk.proofs.key_sets.remove.Goals as goal

pub returns : goal.returns
returns c = removed c.args.set.now.keys c.remove.new.self.keys c.args.key c.remove.ensures.updates.0
