use Rattle.run_model.proofs.RunLaws.{history_more, stage_more, stage_other, refused_more, refused_other}
use Rattle.run_model.proofs.laws.events_grow.Goals as goal

pub returns-clause-history : goal.returns-clause-history
returns-clause-history c = history_more

pub returns-clause-stage : goal.returns-clause-stage
returns-clause-stage c = stage_more

pub returns-clause-stages : goal.returns-clause-stages
returns-clause-stages c = stage_other

pub returns-clause-refused : goal.returns-clause-refused
returns-clause-refused c = refused_more

pub returns-clause-refusals : goal.returns-clause-refusals
returns-clause-refusals c = refused_other
