-- The exits of one step.
use Rattle.std.proofs.Common.{◌≡◌, ℕ, ◌+◌, ◌<◌, Bool, true, false, List, [], ◌++◌, length, refl, sym, ap, subst, ◌∙◌, arith, append_assoc, length-append, ◌⊎◌, inl, inr, Some, None}
use Rattle.std.specs.Prelude.{IsTrue, IsFalse}
use Rattle.std.specs.declared.option.Option.{Option}
use Rattle.std.specs.Io.KnownBytes.{Appends, IsAtEnd}
use Rattle.outer_ends.specs.Told.{SourceTold, SinkTold}
use Rattle.outer_ends.specs.StreamLaws.{appends_then}
use Rattle.http_messages.specs.declared.messages.Message.{Message}
use Rattle.http_messages.specs.declared.messages.Reply.{Reply}
use Rattle.http_messages.specs.declared.framings.Framing.TheVariants.{Chunked}
use Rattle.http_messages.specs.declared.framings.RefusedRest.{RefusedRest}
use Rattle.http_messages.specs.declared.framings.RefusedRest.TheVariants as reason
use Rattle.http_messages.specs.declared.ends.SessionEnd.{SessionEnd}
use Rattle.http_messages.specs.declared.ends.SessionEnd.TheVariants.{Closed, Refused, CutShort, ReadFault, WriteFault, NoMemory, Worn}
use Rattle.http_messages.specs.ReplyText.{reply_text, unavailable_text}
use Rattle.http_model.specs.Framings.{closes, interim_of, is_head}
use Rattle.http_model.specs.MessageLaws.{few_more}
use Rattle.http_model.specs.Requests.{ReadsMessage}
use Rattle.http_model.specs.Exchanges.{planned_reply, Planned, Exchange, IsAnswer, sent_for}
use Rattle.http_model.specs.Rests.{IsRefused, IsEarly}
use Rattle.http_model.specs.Refusals.{refusal_of}
use Rattle.http_model.specs.Served.{IsProperPrefix, in_reply, in_refusal, in_last, EndIs}
use Rattle.task_forms.specs.declared.tasks.Task.{Task}
use Rattle.task_forms.specs.declared.tasks.Entry.{Entry}
use Rattle.session_engine.specs.declared.messages.Taken.{Taken}
use Rattle.session_engine.specs.declared.messages.Taken.TheVariants as found
use Rattle.session_engine.specs.declared.sessions.Pending.{Pending}
use Rattle.session_engine.specs.declared.sessions.Step.{Step}
use Rattle.session_engine.specs.declared.sessions.Step.TheVariants as step
use Rattle.session_engine.specs.Plans.{TaskPlans}
use Rattle.session_engine.specs.States.{SessionState}
use Rattle.session_engine.specs.Finishing.{WritesRefusal}
use Rattle.session_engine.specs.Seen.{TakesMessage, Answers, RanOut, EndOn, IsStable, Settles, StepSees, Replies}
use Rattle.session_engine.proofs.Heads.{interim_same}
use Rattle.http_messages.specs.declared.limits.TheConstants.{MESSAGE_LIMIT}
use Rattle.session_engine.proofs.Ends.{answers_none, answers_one, settles_at, settles_last, no_exchange}

-- ---- the interim text of a message, and proper prefixes

pub early_of : (seen : List ℕ) (m : Message) (now sent : List ℕ) → ReadsMessage seen m now → sent ≡ interim_of m → IsEarly seen sent
early_of seen m now sent h e =
    inr (
      h.bare,
      h.middle,
      h.framed,
      record { head = h.head; framed = h.framing },
      e ∙ ap interim_of h.same ∙ interim_same h.bare m.body,
    )

prefix_more : (s a b : List ℕ) → IsProperPrefix s a → IsProperPrefix s (a ++ b)
prefix_more s a b h = record {
  missing = h.missing ++ b;
  some_missing = omega (arith, h.some_missing, length-append h.missing b);
  parts = ap (λ (l : List ℕ). l ++ b) h.parts ∙ append_assoc s h.missing b;
}

pub prefix_behind : (a s b missing : List ℕ) → 0 < length missing → b ≡ s ++ missing → IsProperPrefix (a ++ s) (a ++ b)
prefix_behind a s b missing some e = record {
  missing = missing;
  some_missing = some;
  parts = ap (λ (l : List ℕ). a ++ l) e ∙ sym (append_assoc a s missing);
}

-- ---- the ends

pub step_message : (plans : TaskPlans) (old now : SessionState) (t u : SourceTold) (w x : SinkTold) (found : Taken) (end : SessionEnd)
    (h : TakesMessage old.buffer now.buffer t u w x found) → EndOn plans old.answered (old.buffer ++ h.bytes) u.left now.answered h.sent end
    → StepSees plans old now t u w x (step.Ended end)
step_message plans old now t u w x found end h v =
    record { bytes = h.bytes; taken_more = h.taken_more; left_less = h.left_less; sent = h.sent; written_more = h.written_more; verdict = v }

-- memory ran out behind what stands there
runs_out : (plans : TaskPlans) (i k : ℕ) (seen sent : List ℕ) → k ≡ i → IsEarly seen sent → RanOut plans i seen k [] sent
runs_out plans i k seen sent e h =
    record { rest = seen; text = []; before = subst (λ (n : ℕ). Answers plans i seen n seen [] []) (sym e) (answers_none plans i seen); early = sent; is_early = h; whole = refl }

pub step_plan_fails : (plans : TaskPlans) (old now : SessionState) (t u : SourceTold) (w x : SinkTold) (message : Message)
    → TakesMessage old.buffer now.buffer t u w x (found.Whole message) → now.answered ≡ old.answered
    → StepSees plans old now t u w x (step.Ended NoMemory)
step_plan_fails plans old now t u w x message h e =
    step_message plans old now t u w x (found.Whole message) NoMemory h
    (runs_out plans old.answered now.answered (old.buffer ++ h.bytes) h.sent e (early_of (old.buffer ++ h.bytes) message now.buffer h.sent h.verdict.0 h.verdict.1))

pub step_no_memory : (plans : TaskPlans) (old now : SessionState) (t u : SourceTold) (w x : SinkTold)
    → TakesMessage old.buffer now.buffer t u w x found.NoMemory → now.answered ≡ old.answered → StepSees plans old now t u w x (step.Ended NoMemory)
step_no_memory plans old now t u w x h e =
    step_message plans old now t u w x found.NoMemory NoMemory h
    (runs_out plans old.answered now.answered (old.buffer ++ h.bytes) h.sent e h.verdict)

at : (plans : TaskPlans) (i k : ℕ) (seen : List ℕ) (left : Option (List ℕ)) (tail : List ℕ) (end : SessionEnd) → k ≡ i
    → EndIs plans false [] i seen [] tail end → IsAtEnd left ⊎ IsStable end [] → Settles plans i seen left false k [] tail end
at plans i k seen left tail end e h final =
    subst (λ (n : ℕ). Settles plans i seen left false n [] tail end) (sym e) (settles_at plans i seen left false [] tail end h final)

pub step_end : (plans : TaskPlans) (old now : SessionState) (t u : SourceTold) (w x : SinkTold)
    → TakesMessage old.buffer now.buffer t u w x found.End → now.answered ≡ old.answered → StepSees plans old now t u w x (step.Ended Closed)
step_end plans old now t u w x h e =
    step_message plans old now t u w x found.End Closed h
    (at plans old.answered now.answered (old.buffer ++ h.bytes) u.left h.sent Closed e (inl (no_exchange, h.verdict.0), refl, h.verdict.2) (inl h.verdict.1))

pub step_cut : (plans : TaskPlans) (old now : SessionState) (t u : SourceTold) (w x : SinkTold)
    → TakesMessage old.buffer now.buffer t u w x found.CutShort → now.answered ≡ old.answered → StepSees plans old now t u w x (step.Ended CutShort)
step_cut plans old now t u w x h e =
    step_message plans old now t u w x found.CutShort CutShort h
    (at plans old.answered now.answered (old.buffer ++ h.bytes) u.left h.sent CutShort e (no_exchange, h.verdict.0, refl) (inl h.verdict.1))

pub step_read_fault : (plans : TaskPlans) (old now : SessionState) (t u : SourceTold) (w x : SinkTold)
    → TakesMessage old.buffer now.buffer t u w x found.ReadFault → now.answered ≡ old.answered → StepSees plans old now t u w x (step.Ended ReadFault)
step_read_fault plans old now t u w x h e =
    step_message plans old now t u w x found.ReadFault ReadFault h
    (at plans old.answered now.answered (old.buffer ++ h.bytes) u.left h.sent ReadFault e (no_exchange, h.verdict, refl) (inr tt))

pub step_write_fault : (plans : TaskPlans) (old now : SessionState) (t u : SourceTold) (w x : SinkTold)
    → TakesMessage old.buffer now.buffer t u w x found.WriteFault → now.answered ≡ old.answered → StepSees plans old now t u w x (step.Ended WriteFault)
step_write_fault plans old now t u w x h e =
    step_message plans old now t u w x found.WriteFault WriteFault h
    (at plans old.answered now.answered (old.buffer ++ h.bytes) u.left h.sent WriteFault e
    (no_exchange, (h.verdict.0 ++ unavailable_text, in_last (record { early = h.verdict.0; is_early = h.verdict.1; whole = refl }) refl, prefix_more h.sent h.verdict.0 unavailable_text h.verdict.2)) (inr tt))

-- ---- a rest that is refused

-- the interim text of a rest that is refused is one of its front
early_refused : (a : List ℕ) (why : RefusedRest) (early : List ℕ) (head_only : Bool) → IsRefused a why early head_only → IsEarly a early
early_refused a reason.Hopeless early head_only h = inl h.1
early_refused a reason.TooLarge early head_only h = inl h.2
early_refused a reason.TooMany early head_only h = inl h.5
early_refused a (reason.Head r) early head_only h = inl h.4
early_refused a reason.BadChunk early head_only h = inr (h.0, h.1, Chunked, h.2, h.4)
early_refused a reason.LargeBody early head_only h = inr (h.0, h.1, Chunked, h.2, h.4)

pub step_refused : (plans : TaskPlans) (old now : SessionState) (t u : SourceTold) (w x y : SinkTold) (why : RefusedRest) (head_only : Bool) (end : SessionEnd)
    → TakesMessage old.buffer now.buffer t u w x (found.Refused why head_only) → WritesRefusal (refusal_of why) head_only x y end → now.answered ≡ old.answered
    → StepSees plans old now t u w y (step.Ended end)
step_refused plans old now t u w x y why head_only (Refused s) h r e = record {
  bytes = h.bytes;
  taken_more = h.taken_more;
  left_less = h.left_less;
  sent = h.sent ++ reply_text (refusal_of why) head_only true;
  written_more = appends_then w.written x.written y.written h.sent (reply_text (refusal_of why) head_only true) h.written_more r.0;
  verdict = at plans old.answered now.answered (old.buffer ++ h.bytes) u.left (h.sent ++ reply_text (refusal_of why) head_only true) (Refused s) e
      (no_exchange, record { why = why; early = h.sent; head_only = head_only; refused = h.verdict; whole = refl; status_of = r.1 }, refl) (inr tt);
}
step_refused plans old now t u w x y why head_only WriteFault h r e = record {
  bytes = h.bytes;
  taken_more = h.taken_more;
  left_less = h.left_less;
  sent = h.sent ++ r.sent;
  written_more = appends_then w.written x.written y.written h.sent r.sent h.written_more r.appended;
  verdict = at plans old.answered now.answered (old.buffer ++ h.bytes) u.left (h.sent ++ r.sent) WriteFault e (
    no_exchange,
    (
      h.sent ++ reply_text (refusal_of why) head_only true,
      in_refusal (refusal_of why).status (record { why = why; early = h.sent; head_only = head_only; refused = h.verdict; status_of = refl; whole = refl }) refl,
      prefix_behind h.sent r.sent (reply_text (refusal_of why) head_only true) r.missing r.some_missing r.parts,
    ),
  ) (inr tt);
}
step_refused plans old now t u w x y why head_only NoMemory h r e = record {
  bytes = h.bytes;
  taken_more = h.taken_more;
  left_less = h.left_less;
  sent = h.sent;
  written_more = subst (λ (z : Option (List ℕ)). Appends w.written z h.sent) (sym r) h.written_more;
  verdict = runs_out plans old.answered now.answered (old.buffer ++ h.bytes) h.sent e (early_refused (old.buffer ++ h.bytes) why h.sent head_only h.verdict);
}
step_refused plans old now t u w x y why head_only Closed h r e = absurd r
step_refused plans old now t u w x y why head_only CutShort h r e = absurd r
step_refused plans old now t u w x y why head_only ReadFault h r e = absurd r
step_refused plans old now t u w x y why head_only Worn h r e = absurd r

-- ---- a message that is answered

-- a message with the reply that was written for it
abbrev pub exchange_of : ℕ → Message → Reply → List Entry → Exchange Entry
exchange_of i m r entries = record { number = i + 1; message = m; reply = r; entries = entries }

pub sent_same : (m : Message) (n : ℕ) (r : Reply) (sent : List ℕ) (p : Pending) → sent ≡ interim_of m → p.head_only ≡ is_head m → p.close ≡ closes m n
    → sent ++ reply_text r p.head_only p.close ≡ sent_for m n r
sent_same m n r sent p e f g = λ i. e i ++ reply_text r (f i) (g i)

pub step_answered : (plans : TaskPlans) (old mid now : SessionState) (t u : SourceTold) (w x y : SinkTold) (message : Message) (r : Reply) (p : Pending)
    → TakesMessage old.buffer mid.buffer t u w x (found.Whole message) → plans.plan message ≡ planned_reply r → p.head_only ≡ is_head message → p.close ≡ closes message (mid.answered + 1)
    → mid.answered ≡ old.answered → old.answered < MESSAGE_LIMIT → Replies p r mid now x y None → StepSees plans old now t u w y step.Answered
step_answered plans old mid now t u w x y message r p h planned head_only close e few done = record {
  bytes = h.bytes;
  taken_more = h.taken_more;
  left_less = h.left_less;
  sent = h.sent ++ reply_text r p.head_only p.close;
  written_more = appends_then w.written x.written y.written h.sent (reply_text r p.head_only p.close) h.written_more done.0;
  verdict = (
    subst (λ (v : SessionState). Answers plans old.answered (old.buffer ++ h.bytes) v.answered v.buffer [] (h.sent ++ reply_text r p.head_only p.close)) (sym done.2)
        (subst (λ (n : ℕ). Answers plans old.answered (old.buffer ++ h.bytes) (n + 1) mid.buffer [] (h.sent ++ reply_text r p.head_only p.close)) (sym e)
        (subst (Answers plans old.answered (old.buffer ++ h.bytes) (old.answered + 1) mid.buffer []) (sym (sent_same message (old.answered + 1) r h.sent p h.verdict.1 head_only closes_now))
        (answers_one plans old.answered (old.buffer ++ h.bytes) (exchange_of old.answered message r []) mid.buffer h.verdict.0 refl answer stays))),
    omega (arith, ap (λ (v : SessionState). v.answered) done.2, e),
    omega (arith, ap (λ (v : SessionState). v.answered) done.2, e, few_more message (old.answered + 1) (omega (arith, few)) stays),
  );
}
  where
    closes_now : p.close ≡ closes message (old.answered + 1)
    closes_now = close ∙ ap (λ (n : ℕ). closes message (n + 1)) e

    stays : IsFalse (closes message (old.answered + 1))
    stays = subst IsFalse closes_now done.1

    answer : IsAnswer plans (plans.plan message) r []
    answer = subst (λ (v : Planned Task). IsAnswer plans v r []) (sym planned) (refl, refl)

pub step_replied : (plans : TaskPlans) (old mid now : SessionState) (t u : SourceTold) (w x y : SinkTold) (message : Message) (r : Reply) (p : Pending) (end : SessionEnd)
    → TakesMessage old.buffer mid.buffer t u w x (found.Whole message) → plans.plan message ≡ planned_reply r → p.head_only ≡ is_head message → p.close ≡ closes message (mid.answered + 1)
    → mid.answered ≡ old.answered → Replies p r mid now x y (Some end) → StepSees plans old now t u w y (step.Ended end)
step_replied plans old mid now t u w x y message r p Closed h planned head_only close e done = record {
  bytes = h.bytes;
  taken_more = h.taken_more;
  left_less = h.left_less;
  sent = h.sent ++ reply_text r p.head_only p.close;
  written_more = appends_then w.written x.written y.written h.sent (reply_text r p.head_only p.close) h.written_more done.0;
  verdict =
      subst (λ (n : ℕ). Settles plans old.answered (old.buffer ++ h.bytes) u.left false n [] (h.sent ++ reply_text r p.head_only p.close) Closed)
      (ap (λ (n : ℕ). n + 1) (sym e) ∙ ap (λ (v : SessionState). v.answered) (sym done.2))
      (subst (λ (s : List ℕ). Settles plans old.answered (old.buffer ++ h.bytes) u.left false (old.answered + 1) [] s Closed)
      (sym (sent_same message (old.answered + 1) r h.sent p h.verdict.1 head_only closes_now))
      (settles_last plans old.answered (old.buffer ++ h.bytes) u.left false (exchange_of old.answered message r []) mid.buffer h.verdict.0 refl answer closing));
}
  where
    closes_now : p.close ≡ closes message (old.answered + 1)
    closes_now = close ∙ ap (λ (n : ℕ). closes message (n + 1)) e

    closing : IsTrue (closes message (old.answered + 1))
    closing = subst IsTrue closes_now done.1

    answer : IsAnswer plans (plans.plan message) r []
    answer = subst (λ (v : Planned Task). IsAnswer plans v r []) (sym planned) (refl, refl)
step_replied plans old mid now t u w x y message r p WriteFault h planned head_only close e done = record {
  bytes = h.bytes;
  taken_more = h.taken_more;
  left_less = h.left_less;
  sent = h.sent ++ done.0.sent;
  written_more = appends_then w.written x.written y.written h.sent done.0.sent h.written_more done.0.appended;
  verdict = at plans old.answered now.answered (old.buffer ++ h.bytes) u.left (h.sent ++ done.0.sent) WriteFault (ap (λ (v : SessionState). v.answered) done.1 ∙ e) (
    no_exchange,
    (
      h.sent ++ reply_text r p.head_only p.close,
      in_reply message mid.buffer r h.verdict.0 answer (sent_same message (old.answered + 1) r h.sent p h.verdict.1 head_only closes_now),
      prefix_behind h.sent done.0.sent (reply_text r p.head_only p.close) done.0.missing done.0.some_missing done.0.parts,
    ),
  ) (inr tt);
}
  where
    closes_now : p.close ≡ closes message (old.answered + 1)
    closes_now = close ∙ ap (λ (n : ℕ). closes message (n + 1)) e

    answer : IsAnswer plans (plans.plan message) r []
    answer = subst (λ (v : Planned Task). IsAnswer plans v r []) (sym planned) (refl, refl)
step_replied plans old mid now t u w x y message r p (Refused s) h planned head_only close e done = absurd done
step_replied plans old mid now t u w x y message r p CutShort h planned head_only close e done = absurd done
step_replied plans old mid now t u w x y message r p ReadFault h planned head_only close e done = absurd done
step_replied plans old mid now t u w x y message r p NoMemory h planned head_only close e done = absurd done
step_replied plans old mid now t u w x y message r p Worn h planned head_only close e done = absurd done

-- the session before the step under another name
pub along : (plans : TaskPlans) (a b now : SessionState) (t u : SourceTold) (w x : SinkTold) (r : Step) → a ≡ b
    → StepSees plans a now t u w x r → StepSees plans b now t u w x r
along plans a b now t u w x r e h = subst (λ (s : SessionState). StepSees plans s now t u w x r) e h
