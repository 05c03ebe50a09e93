use Rattle.run_model.proofs.RunLaws.{run_more}
use Rattle.run_model.proofs.laws.runs_grow.Goals as goal

pub returns : goal.returns
returns g c = λ k window first w. run_more (g.S.Means.meaning k) window first w
