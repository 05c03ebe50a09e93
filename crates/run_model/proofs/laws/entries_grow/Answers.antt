use Rattle.run_model.proofs.RunLaws.{by_same, by_other}
use Rattle.run_model.proofs.laws.entries_grow.Goals as goal

pub returns-clause-own : goal.returns-clause-own
returns-clause-own c = by_same

pub returns-clause-others : goal.returns-clause-others
returns-clause-others c = by_other
