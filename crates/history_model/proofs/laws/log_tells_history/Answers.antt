use Rattle.history_model.proofs.LogLaws.{judges}
use Rattle.history_model.proofs.laws.log_tells_history.Goals as goal

pub returns : goal.returns
returns g c =
    λ k first w entries noted log reads since answer writings keeps said.
    judges (g.S.Means.meaning k) first w entries noted writings log keeps reads since answer said
