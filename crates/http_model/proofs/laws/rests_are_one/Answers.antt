use Rattle.http_model.proofs.RestsLaw.{rest_unique}
use Rattle.http_model.proofs.laws.rests_are_one.Goals as goal

pub returns : goal.returns
returns c = rest_unique
