use Rattle.serving.proofs.Working.{within_both}
use Rattle.serving.proofs.workers.WorkersJoining.join.Goals as goal

pub returns-clause-one : goal.returns-clause-one
returns-clause-one g c = (within_both c.args.one c.args.other c.join.result c.join.ensures.view c.join.ensures.seen.0 c.join.ensures.seen.1).0

pub returns-clause-other : goal.returns-clause-other
returns-clause-other g c = (within_both c.args.one c.args.other c.join.result c.join.ensures.view c.join.ensures.seen.0 c.join.ensures.seen.1).1
