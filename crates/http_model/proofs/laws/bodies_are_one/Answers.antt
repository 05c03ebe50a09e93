use Rattle.http_model.proofs.BodiesLaw.{body_kind_unique}
use Rattle.http_model.proofs.laws.bodies_are_one.Goals as goal

pub returns : goal.returns
returns c = body_kind_unique
