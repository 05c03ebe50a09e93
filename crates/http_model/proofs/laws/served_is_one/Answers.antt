use Rattle.http_model.proofs.ServedLaw.{served_unique}
use Rattle.http_model.proofs.laws.served_is_one.Goals as goal

pub returns : goal.returns
returns g c = served_unique
