use Rattle.replay_script.specs.Reports.{bytes_data}
use Rattle.replay_script.proofs.Items.{Goes}
use Rattle.replay_script.proofs.reports.add_replies.Given as goal

abbrev pub invariant-loop-reply : goal.invariant-loop-reply
invariant-loop-reply l = Goes bytes_data l.replies l.fn.draft l.draft l.later l.reply-index
