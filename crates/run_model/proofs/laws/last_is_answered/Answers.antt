use Rattle.run_model.proofs.RunLaws.{last_answer}
use Rattle.run_model.proofs.laws.last_is_answered.Goals as goal

pub returns : goal.returns
returns g c = λ k. last_answer (g.S.Means.meaning k)
