use Rattle.history_model.proofs.CommitLaws.{trial_holds}
use Rattle.history_model.proofs.laws.trial_stays_right.Goals as goal

pub returns : goal.returns
returns g c =
    λ k store count log first w entries at t reads writes reply stands low clear tried.
    trial_holds (g.S.Means.meaning k) (g.S.Means.lawful k) store count log first w entries stands at t reads writes reply low clear.0 clear.1 tried
