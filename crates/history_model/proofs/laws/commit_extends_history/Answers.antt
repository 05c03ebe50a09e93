use Rattle.history_model.proofs.CommitLaws.{trial_holds, takes_entry}
use Rattle.history_model.proofs.laws.commit_extends_history.Goals as goal

pub returns : goal.returns
returns g c =
    λ k store new count log log_now first w entries at e reads writes stands fit low clear tried takes.
    takes_entry (g.S.Means.meaning k) (g.S.Means.lawful k) store new count log log_now first w entries stands e writes fit
    (trial_holds (g.S.Means.meaning k) (g.S.Means.lawful k) store count log first w entries stands at e.task reads writes e.reply low clear.0 clear.1 tried) takes
