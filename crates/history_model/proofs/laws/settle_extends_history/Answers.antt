use Rattle.history_model.proofs.CommitLaws.{last_holds, takes_entry}
use Rattle.history_model.proofs.laws.settle_extends_history.Goals as goal

pub returns : goal.returns
returns g c =
    λ k store new count log log_now first w entries e reads writes stands fit tried takes.
    takes_entry (g.S.Means.meaning k) (g.S.Means.lawful k) store new count log log_now first w entries stands e writes fit
    (last_holds (g.S.Means.meaning k) (g.S.Means.lawful k) store count log first w entries stands e.task reads writes e.reply tried) takes
