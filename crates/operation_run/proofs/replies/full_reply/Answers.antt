use Rattle.std.proofs.Common.{None, ap}
use Rattle.http_messages.specs.declared.messages.Allow.TheVariants as allow
use Rattle.http_messages.specs.declared.messages.Content.TheVariants as content
use Rattle.operation_run.proofs.Drafts.{draft_ended}
use Rattle.operation_run.proofs.replies.full_reply.Goals as goal

pub returns-clause-reply : goal.returns-clause-reply
returns-clause-reply c = λ done draft.
    ap (λ body. record { status = 200; content = content.Atomic; location = None; allow = allow.Nothing; body = body })
    (draft_ended c.args.results c.add.new.self c.args.later done c.in_ok-finish.field-0 draft c.add.ensures c.in_ok-finish.ensures)
