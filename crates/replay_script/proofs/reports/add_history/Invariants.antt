use Rattle.replay_script.specs.Reports.{number_data}
use Rattle.replay_script.proofs.Items.{Goes}
use Rattle.replay_script.proofs.reports.add_history.Given as goal

abbrev pub invariant-loop-number : goal.invariant-loop-number
invariant-loop-number l = Goes number_data l.numbers l.fn.draft l.draft l.later l.number-index
