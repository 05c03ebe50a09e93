use Rattle.std.proofs.Common.{◌≤◌, length, subst, sym}
use Rattle.serde_json.specs.View.{view}
use Rattle.replay_runs.specs.declared.reports.TheConstants.{STREAM_LIMIT}
use Rattle.replay_script.proofs.Fits.{streams-few}
use Rattle.replay_script.proofs.scripts.parts_in.Goals as goal

pub steps_in-requires : goal.steps_in-requires
steps_in-requires c =
    record { few = subst (λ bs. length bs ≤ STREAM_LIMIT) (sym c.as_slice.ensures) (streams-few (view c.args.script.now) c.in_ok-streams.streams c.in_ok-streams.ensures) }
