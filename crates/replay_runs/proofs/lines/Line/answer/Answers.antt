use Rattle.std.proofs.Common.{refl, ap, subst, None}
use Rattle.std.specs.Prelude.{IfSome}
use Rattle.outer_ends.specs.Memory.{sink_told}
use Rattle.session_engine.specs.Seen.{Replies}
use Rattle.replay_runs.specs.Lines.{connection}
use Rattle.replay_runs.proofs.lines.Line.answer.Goals as goal

pub returns-in-None-clause-answers : goal.returns-in-None-clause-answers
returns-in-None-clause-answers c = λ plans bytes entries t e p entry.
    let old = c.args.self.now in
    let sent = subst (λ o. IfSome o (λ q. Replies q c.args.reply.now old.session c.send.new.self (sink_told old.sink) (sink_told c.send.new.sink) None)) p.pending c.in-None.ensures.sends in
    record {
      between = c.sessions_go_on.ensures.answered plans bytes entries t (connection old) (record { source = old.source; sink = c.send.new.sink; session = c.send.new.self }) e c.args.reply.now p entry refl c.in-None.ensures.sends;
      free = ap (λ s. s.pending) sent.2;
    }

pub returns-in-Some-Closed-clause-answers : goal.returns-in-Some-Closed-clause-answers
returns-in-Some-Closed-clause-answers c = λ plans bytes entries t e p entry.
    let old = c.args.self.now in
    c.sessions_go_on.ensures.closed plans bytes entries t (connection old) (record { source = old.source; sink = c.send.new.sink; session = c.send.new.self }) e c.args.reply.now p entry refl
    (rw c.in-Some-Closed.field-0-is at c.in-Some-Closed.ensures.sends)
