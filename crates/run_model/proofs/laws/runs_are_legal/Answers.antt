use Rattle.run_model.proofs.Legal.{run_is_legal}
use Rattle.run_model.proofs.laws.runs_are_legal.Goals as goal

pub returns : goal.returns
returns g c = λ k. run_is_legal (g.S.Means.meaning k)
