use Rattle.http_model.proofs.RestsLaw.{head_kind_unique}
use Rattle.http_model.proofs.laws.heads_are_one.Goals as goal

pub returns : goal.returns
returns c = head_kind_unique
