use Rattle.std.proofs.Common.{subst}
use Rattle.replay_script.specs.Reports.{bytes_data}
use Rattle.json_texts.specs.Drafts.{Adds}
use Rattle.serde_json.specs.Written.{comma_if, compact_text}
use Rattle.std.proofs.Common.{◌++◌}
use Rattle.replay_script.proofs.Items.{begun, turn, ended}
use Rattle.replay_script.proofs.reports.add_replies.Goals as goal

pub loop-reply-init : goal.loop-reply-init
loop-reply-init c = begun bytes_data c.args.replies.now c.add.ensures

pub loop-reply-preserved : goal.loop-reply-preserved
loop-reply-preserved c =
    turn bytes_data c.args.replies.now c.loop-reply.reply-index c.reply-item.result c.loop-reply.later c.loop-reply-test.true c.reply-item.is c.loop-reply.invariant
    (subst (λ bytes. Adds c.loop-reply.draft c.add_reply.new.draft (comma_if c.loop-reply.later ++ compact_text (bytes_data bytes))) c.as_slice.ensures c.in_ok-add_reply.ensures)

pub returns : goal.returns
returns c = ended bytes_data c.args.replies.now c.loop-reply.reply-index c.loop-reply.later c.loop-reply-test.false c.loop-reply.invariant c.add-2.ensures
