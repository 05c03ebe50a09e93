use Rattle.std.proofs.Common.{refl, ◌∙◌, None, length, ◌+◌, ◌-◌, ◌<◌, arith, ap, sym, subst, ◌≡◌, ℕ, [], List}
use Rattle.session_engine.specs.States.{SessionState}
use Rattle.session_engine.proofs.Serving.{serve_end, serve_out, serve_worn, asking_of, serve_sent, serving_sent, replies_of, falls, refused_as, own_entries}
use Rattle.session_engine.proofs.Counting.{CountedFrom, none_counted, joins_counted, refuses_counted}
use Rattle.http_messages.specs.declared.limits.TheConstants.{MESSAGE_LIMIT}
use Rattle.session_engine.proofs.drives.serve.Goals as goal

pub serving-init : goal.serving-init
serving-init g c = record {
  fixed = refl;
  so_far = λ base. none_counted _ _ base _ _ _ _ refl c.requires.fresh;
  idle = ap (λ (s : SessionState). s.pending) c.requires.fresh;
  answered = subst (λ (s : SessionState). s.answered < MESSAGE_LIMIT) (sym c.requires.fresh) (omega arith);
  made = omega arith;
  reads = refl;
  writes = refl;
}

pub returns-in-Ended-clause-serves : goal.returns-in-Ended-clause-serves
returns-in-Ended-clause-serves g c first w seen mine h =
    serve_end c.read_stays.ensures _ _ _ _ _ _ _ _ _ _ _ _ _ _ (c.serving.invariant.so_far (length mine)) c.in-Ended.ensures.sees c.finish-end.ensures.sends first w seen mine (h, refl)

pub returns-in-Err-NoMemory-clause-serves : goal.returns-in-Err-NoMemory-clause-serves
returns-in-Err-NoMemory-clause-serves g c first w seen mine h =
    serve_out c.read_stays.ensures _ _ _ _ _ _ _ _ _ _ c.in-Task.task (asking_of c.read_stays.ensures _ _ _ _ _ _ _ _ _ _ _ c.in-Task.task (c.serving.invariant.so_far (length mine)) c.in-Task.ensures.sees) _ c.finish-end-in-Err-NoMemory.ensures.sends
    (refuses_counted _ _ (length mine + c.serving.entries) _ (refused_as _ _ _ _ c.in-Err-NoMemory.field-0-is c.in-Err-NoMemory.ensures.err)) first w seen mine (h, refl)

pub returns-in-Err-Worn-clause-serves : goal.returns-in-Err-Worn-clause-serves
returns-in-Err-Worn-clause-serves g c first w seen mine h =
    serve_worn c.read_stays.ensures _ _ _ _ _ _ _ _ _ _ c.in-Task.task (asking_of c.read_stays.ensures _ _ _ _ _ _ _ _ _ _ _ c.in-Task.task (c.serving.invariant.so_far (length mine)) c.in-Task.ensures.sees) _ c.stop-end.ensures.sends
    (refuses_counted _ _ (length mine + c.serving.entries) _ (refused_as _ _ _ _ c.in-Err-Worn.field-0-is c.in-Err-Worn.ensures.err)) first w seen mine (h, refl)

pub returns-in-Some-clause-serves : goal.returns-in-Some-clause-serves
returns-in-Some-clause-serves g c first w seen mine h =
    let more : length mine + (c.serving.entries + 1) ≡ length mine + c.serving.entries + 1 = omega arith in
    serve_sent c.read_stays.ensures _ (own_entries (g.P.Planner.planned c.args.planner.now)) _ _ _ _ _ _ _ _ _ _ c.in-Task.task c.in-Ok.reply
    (asking_of c.read_stays.ensures _ _ _ _ _ _ _ _ _ _ _ c.in-Task.task (c.serving.invariant.so_far (length mine)) c.in-Task.ensures.sees)
    (joins_counted _ _ (length mine + c.serving.entries) (length mine + (c.serving.entries + 1)) c.in-Task.task c.in-Ok.reply more c.in-Ok.ensures.done) c.in-Some.end c.in-Some.ensures.sends first w seen mine (h, refl)

pub serving-smaller : goal.serving-smaller
serving-smaller g c =
    falls _ _ _ _ _ _ _ _ c.in-Task.task _ _ (g.K.Sink.told c.send.new.sink) c.in-Task.ensures.sees (replies_of c.next.new.self.pending _ c.in-Ok.reply c.next.new.self c.send.new.self (g.K.Sink.told c.next.new.sink) (g.K.Sink.told c.send.new.sink) None c.in-Task.ensures.sees.verdict.pending c.in-None.ensures.sends) c.serving.invariant.answered

pub serving-preserved : goal.serving-preserved
serving-preserved g c =
    let done = replies_of c.next.new.self.pending _ c.in-Ok.reply c.next.new.self c.send.new.self (g.K.Sink.told c.next.new.sink) (g.K.Sink.told c.send.new.sink) None c.in-Task.ensures.sees.verdict.pending c.in-None.ensures.sends in
    let falling = falls _ _ _ _ _ _ _ _ c.in-Task.task _ _ (g.K.Sink.told c.send.new.sink) c.in-Task.ensures.sees done c.serving.invariant.answered in
    let few = c.serving.invariant.answered in
    let made = c.serving.invariant.made in
    let so_far = λ (base : ℕ).
    serving_sent c.read_stays.ensures _ (own_entries (g.P.Planner.planned c.args.planner.now)) _ _ _ _ _ _ _ _ _ _ c.in-Task.task c.in-Ok.reply
    (asking_of c.read_stays.ensures _ _ _ _ _ _ _ _ _ _ _ c.in-Task.task (c.serving.invariant.so_far base) c.in-Task.ensures.sees)
    (joins_counted _ _ (base + c.serving.entries) (base + (c.serving.entries + 1)) c.in-Task.task c.in-Ok.reply (omega arith) c.in-Ok.ensures.done) c.in-None.ensures.sends in
    record {
      fixed = c.answer.ensures.fixed ∙ c.serving.invariant.fixed;
      so_far = so_far;
      idle = ap (λ (s : SessionState). s.pending) done.2;
      answered = (so_far 0).few;
      made = omega (arith, falling, few, made);
      reads = c.in-Task.ensures.cause.0 ∙ c.serving.invariant.reads;
      writes = c.in-None.ensures.cause ∙ (c.in-Task.ensures.cause.1 ∙ c.serving.invariant.writes);
    }
