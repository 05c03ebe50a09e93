use Rattle.run_model.proofs.RunLaws.{is_rebuilt}
use Rattle.run_model.proofs.laws.history_is_rebuilt.Goals as goal

pub returns : goal.returns
returns g c = λ k. is_rebuilt (g.S.Means.meaning k)
