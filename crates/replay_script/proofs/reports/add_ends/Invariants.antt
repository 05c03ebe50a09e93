use Rattle.replay_script.specs.Reports.{end_data}
use Rattle.replay_script.proofs.Items.{Goes}
use Rattle.replay_script.proofs.reports.add_ends.Given as goal

abbrev pub invariant-loop-end : goal.invariant-loop-end
invariant-loop-end l = Goes end_data l.ends l.fn.draft l.draft l.later l.end-index
