use Rattle.history_model.proofs.Aged.{aged_is_one}
use Rattle.history_model.proofs.laws.aged_is_one.Goals as goal

pub returns : goal.returns
returns g c = λ k. aged_is_one (g.S.Means.meaning k)
