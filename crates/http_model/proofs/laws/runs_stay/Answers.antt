use Rattle.http_model.proofs.Growth.{runs_more}
use Rattle.http_model.proofs.laws.runs_stay.Goals as goal

pub returns : goal.returns
returns g c = runs_more
