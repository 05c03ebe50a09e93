use Rattle.history_model.specs.Histories.{MeetsReads}
use Rattle.history_model.proofs.LogLaws.{least_is_one}
use Rattle.history_model.proofs.laws.conflict_is_one.Goals as goal

pub returns : goal.returns
returns g c =
    λ k first w entries reads at one other is_one is_other.
    least_is_one (MeetsReads (g.S.Means.meaning k) first w entries reads) at one other is_one is_other
