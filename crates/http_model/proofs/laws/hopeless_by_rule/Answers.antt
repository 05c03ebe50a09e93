use Rattle.http_model.proofs.HopelessLaw.{rule_agrees}
use Rattle.http_model.proofs.laws.hopeless_by_rule.Goals as goal

pub returns : goal.returns
returns c = rule_agrees
