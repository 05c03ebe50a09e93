use Rattle.run_model.proofs.RunLaws.{refusal_may}
use Rattle.run_model.proofs.laws.refusals_are_conflicts.Goals as goal

pub returns : goal.returns
returns g c = λ k window first w. refusal_may (g.S.Means.meaning k) window first w
