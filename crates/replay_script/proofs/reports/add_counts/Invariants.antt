use Rattle.replay_script.specs.Reports.{number_data}
use Rattle.replay_script.proofs.Items.{Goes}
use Rattle.replay_script.proofs.reports.add_counts.Given as goal

abbrev pub invariant-loop-count : goal.invariant-loop-count
invariant-loop-count l = Goes number_data l.counts l.fn.draft l.draft l.later l.count-index
