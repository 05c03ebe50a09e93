use Rattle.http_model.proofs.ServedLaw.{served_out}
use Rattle.http_model.proofs.laws.memory_runs_out.Goals as goal

pub returns : goal.returns
returns g c = served_out
