-- The calls of a session that is driven by hand between ends in memory.
use Rattle.std.proofs.Common.{◌≡◌, ℕ, ◌+◌, ◌-◌, ◌<◌, ◌≤◌, false, List, [], ◌∷◌, ◌++◌, length, refl, sym, ap, subst, ◌∙◌, arith, append_assoc, append-nil, inl, inr, Some, None}
use Rattle.std.specs.Prelude.{⊤, IfSome, IsSome, IsFalse}
use Rattle.std.specs.declared.option.Option.{Option}
use Rattle.http_messages.specs.declared.messages.Message.{Message}
use Rattle.http_messages.specs.declared.messages.Reply.{Reply}
use Rattle.http_messages.specs.declared.ends.SessionEnd.{SessionEnd}
use Rattle.http_messages.specs.declared.ends.SessionEnd.TheVariants.{Closed, Refused, CutShort, ReadFault, WriteFault, NoMemory, Worn}
use Rattle.http_messages.specs.declared.limits.TheConstants.{MESSAGE_LIMIT}
use Rattle.http_messages.specs.ReplyText.{reply_text, unavailable_text}
use Rattle.http_model.specs.Framings.{closes, interim_of, is_head}
use Rattle.http_model.specs.MessageLaws.{few_more}
use Rattle.http_model.specs.Requests.{ReadsMessage}
use Rattle.http_model.specs.Rests.{IsEarly}
use Rattle.http_model.specs.Exchanges.{Planned, planned_task, Exchange, IsAnswer, Runs, sent_for}
use Rattle.http_model.specs.Served.{Served}
use Rattle.http_model.specs.Laws.{ReadStays}
use Rattle.task_forms.specs.declared.tasks.Task.{Task}
use Rattle.task_forms.specs.declared.tasks.Entry.{Entry}
use Rattle.session_engine.specs.declared.sessions.Pending.{Pending}
use Rattle.session_engine.specs.declared.sessions.Next.{Next}
use Rattle.session_engine.specs.declared.sessions.Next.TheVariants as next
use Rattle.session_engine.specs.Plans.{TaskPlans}
use Rattle.session_engine.specs.States.{SessionState}
use Rattle.session_engine.specs.Seen.{Answers, RanOut, Settles, NextSees, EndOn, Replies}
use Rattle.session_engine.proofs.Ends.{answers_none, answers_one, answers_then, answers_more, settles_at, settles_last, settles_then, no_exchange, served_over}
use Rattle.session_engine.proofs.Steps.{early_of, exchange_of}
use Rattle.session_engine.proofs.Serving.{runs_up, replies_of}
use Rattle.http_model.specs.Tasks.{IsMemoryEnd}
use Rattle.outer_ends.specs.Told.{SinkTold}
use Rattle.outer_ends.specs.Memory.{sink_told}
use Rattle.session_engine.specs.Driving.{Connection, IsBetweenTwo, IsAtTask, IsOver, CallsNext, CallsSend, SaysOut, IsEntryOf, HasPending, SessionsGoOn}

-- ---- the start

pub begins : (plans : TaskPlans) (bytes : List ℕ) (c : Connection) → c.source.taken ≡ [] → c.source.left ≡ bytes → c.sink.written ≡ [] → c.session ≡ record { answered = 0; buffer = []; pending = None } → IsBetweenTwo plans bytes [] c
begins plans bytes c none all unwritten new = record {
  whole = sym all ∙ ap (λ t. t ++ c.source.left) (sym none);
  answers = let at = answers_none plans 0 [] in
      subst (λ t. Answers plans 0 t c.session.answered c.session.buffer [] c.sink.written) (sym none)
      (subst (λ s. Answers plans 0 [] s.answered s.buffer [] c.sink.written) (sym new) (subst (λ w. Answers plans 0 [] 0 [] [] w) (sym unwritten) at));
  few = subst (λ s. s.answered < MESSAGE_LIMIT) (sym new) (omega arith);
}

-- ---- a call of next

module _ (laws : ReadStays) (plans : TaskPlans) (bytes : List ℕ) (entries : List Entry) (old new : Connection) where
  moved : (more : List ℕ) → bytes ≡ old.source.taken ++ old.source.left → new.source.taken ≡ old.source.taken ++ more → old.source.left ≡ more ++ new.source.left → bytes ≡ new.source.taken ++ new.source.left
  moved more whole taken left =
      whole ∙ (ap (λ l. old.source.taken ++ l) left ∙ (sym (append_assoc old.source.taken more new.source.left) ∙ ap (λ t. t ++ new.source.left) (sym taken)))

  -- what was answered before and in the call
  answered_by : (more : List ℕ) (k : ℕ) (rest text : List ℕ) → Answers plans 0 old.source.taken old.session.answered old.session.buffer entries old.sink.written → new.source.taken ≡ old.source.taken ++ more
      → Answers plans old.session.answered (old.session.buffer ++ more) k rest [] text → Answers plans 0 new.source.taken k rest entries (old.sink.written ++ text)
  answered_by more k rest text before taken later =
      subst (λ t. Answers plans 0 t k rest entries (old.sink.written ++ text)) (sym taken)
      (subst (λ xs. Answers plans 0 (old.source.taken ++ more) k rest xs (old.sink.written ++ text)) (append-nil entries)
      (answers_then plans 0 (old.source.taken ++ more) old.session.answered (old.session.buffer ++ more) k rest entries [] old.sink.written text
      (answers_more laws plans 0 old.source.taken old.session.answered old.session.buffer more entries old.sink.written before) later))

  pub asks : (t : Task) → IsBetweenTwo plans bytes entries old → CallsNext plans old new (next.Task t) → IsAtTask plans bytes entries t new
  asks t p q = record {
    whole = moved q.bytes p.whole q.taken_more q.left_less;
    middle = q.verdict.middle;
    text = old.sink.written ++ q.verdict.text;
    answers = answered_by q.bytes new.session.answered q.verdict.middle q.verdict.text p.answers q.taken_more q.verdict.before;
    message = q.verdict.message;
    reads = q.verdict.reads;
    planned = q.verdict.planned;
    pending = q.verdict.pending;
    written = q.written_more ∙ (ap (λ s. old.sink.written ++ s) q.verdict.whole ∙ sym (append_assoc old.sink.written q.verdict.text (interim_of q.verdict.message)));
    few = q.verdict.few;
  }

  -- an end of which no text is to come
  pub ends_so : (end : SessionEnd) → IsMemoryEnd end → IsBetweenTwo plans bytes entries old → (more sent : List ℕ) → new.source.taken ≡ old.source.taken ++ more → old.source.left ≡ more ++ new.source.left
      → new.sink.written ≡ old.sink.written ++ sent → Settles plans old.session.answered (old.session.buffer ++ more) (Some new.source.left) false new.session.answered [] sent end
      → IsOver plans bytes entries end new
  ends_so end memory p more sent taken left written settled = record {
    answered = new.session.answered;
    served =
        subst (λ b. Served plans 0 b new.source.taken false new.session.answered entries new.sink.written end) (sym (moved more p.whole taken left))
        (subst (λ t. Served plans 0 (t ++ new.source.left) t false new.session.answered entries new.sink.written end) (sym taken)
        (served_over laws plans 0 (old.source.taken ++ more) new.source.left false new.session.answered entries new.sink.written end
        (subst (λ w. Settles plans 0 (old.source.taken ++ more) (Some new.source.left) false new.session.answered entries w end) (sym written)
        (subst (λ xs. Settles plans 0 (old.source.taken ++ more) (Some new.source.left) false new.session.answered xs (old.sink.written ++ sent) end) (append-nil entries)
        (settles_then plans 0 (old.source.taken ++ more) old.session.answered (old.session.buffer ++ more) (Some new.source.left) false new.session.answered entries [] old.sink.written sent end
        (answers_more laws plans 0 old.source.taken old.session.answered old.session.buffer more entries old.sink.written p.answers) settled)))));
    in_memory = memory;
  }

  pub ends_closed : IsBetweenTwo plans bytes entries old → CallsNext plans old new (next.Ended Closed) → IsOver plans bytes entries Closed new
  ends_closed p q = ends_so Closed tt p q.bytes q.sent q.taken_more q.left_less q.written_more q.verdict

  pub ends_refused : (s : ℕ) → IsBetweenTwo plans bytes entries old → CallsNext plans old new (next.Ended (Refused s)) → IsOver plans bytes entries (Refused s) new
  ends_refused s p q = ends_so (Refused s) tt p q.bytes q.sent q.taken_more q.left_less q.written_more q.verdict

  pub ends_cut : IsBetweenTwo plans bytes entries old → CallsNext plans old new (next.Ended CutShort) → IsOver plans bytes entries CutShort new
  ends_cut p q = ends_so CutShort tt p q.bytes q.sent q.taken_more q.left_less q.written_more q.verdict

-- want of memory behind what was answered, whose text was then written
out_of_memory : ReadStays → (plans : TaskPlans) (taken left : List ℕ) (k : ℕ) (rest : List ℕ) (entries : List Entry) (text early : List ℕ) → Answers plans 0 taken k rest entries text → IsEarly rest early
    → Served plans 0 (taken ++ left) taken false k entries (text ++ (early ++ unavailable_text)) NoMemory
out_of_memory laws plans taken left k rest entries text early before is_early =
    served_over laws plans 0 taken left false k entries (text ++ (early ++ unavailable_text)) NoMemory
    (subst (λ xs. Settles plans 0 taken (Some left) false k xs (text ++ (early ++ unavailable_text)) NoMemory) (append-nil entries)
    (settles_then plans 0 taken k rest (Some left) false k entries [] text (early ++ unavailable_text) NoMemory before
    (settles_at plans k rest (Some left) false [] (early ++ unavailable_text) NoMemory (no_exchange, record { early = early; is_early = is_early; whole = refl }, refl) (inr tt))))

pub ends_out : ReadStays → (plans : TaskPlans) (bytes : List ℕ) (entries : List Entry) (old mid new : Connection) → IsBetweenTwo plans bytes entries old → CallsNext plans old mid (next.Ended NoMemory)
    → new.source ≡ mid.source → new.session ≡ mid.session → new.sink.written ≡ mid.sink.written ++ unavailable_text → IsOver plans bytes entries NoMemory new
ends_out laws plans bytes entries old mid new p q source session written = record {
  answered = mid.session.answered;
  served =
      subst (λ s. Served plans 0 bytes s.taken false mid.session.answered entries new.sink.written NoMemory) (sym source)
      (subst (λ b. Served plans 0 b mid.source.taken false mid.session.answered entries new.sink.written NoMemory) (sym (moved laws plans bytes entries old mid q.bytes p.whole q.taken_more q.left_less))
      (subst (λ w. Served plans 0 (mid.source.taken ++ mid.source.left) mid.source.taken false mid.session.answered entries w NoMemory) (sym text)
      (out_of_memory laws plans mid.source.taken mid.source.left mid.session.answered q.verdict.rest entries (old.sink.written ++ q.verdict.text) q.verdict.early
      (answered_by laws plans bytes entries old mid q.bytes mid.session.answered q.verdict.rest q.verdict.text p.answers q.taken_more q.verdict.before) q.verdict.is_early)));
  in_memory = tt;
}
  where
    text : new.sink.written ≡ (old.sink.written ++ q.verdict.text) ++ (q.verdict.early ++ unavailable_text)
    text = written ∙ (ap (λ w. w ++ unavailable_text) (q.written_more ∙ ap (λ s. old.sink.written ++ s) q.verdict.whole) ∙ simp append_assoc)

-- ---- what a call that came to a task tells of any history

is_some : (o : Option Pending) (q : Pending) → o ≡ Some q → IsSome o
is_some o q e = subst IsSome (sym e) refl

pub waits : (plans : TaskPlans) (old new : Connection) (t : Task) → CallsNext plans old new (next.Task t) → HasPending old new
waits plans old new t q = record {
  answered = runs_up plans old.session.answered (old.session.buffer ++ q.bytes) q.verdict.before.exchanges new.session.answered q.verdict.middle q.verdict.before.runs;
  pending = is_some new.session.pending _ q.verdict.pending;
  few = q.verdict.few;
}

-- ---- at a task

pub task_out : ReadStays → (plans : TaskPlans) (bytes : List ℕ) (entries : List Entry) (t : Task) (old new : Connection) → IsAtTask plans bytes entries t old
    → new.source ≡ old.source → new.sink.written ≡ old.sink.written ++ unavailable_text → IsOver plans bytes entries NoMemory new
task_out laws plans bytes entries t old new p source written = record {
  answered = old.session.answered;
  served =
      subst (λ s. Served plans 0 bytes s.taken false old.session.answered entries new.sink.written NoMemory) (sym source)
      (subst (λ b. Served plans 0 b old.source.taken false old.session.answered entries new.sink.written NoMemory) (sym p.whole)
      (subst (λ w. Served plans 0 (old.source.taken ++ old.source.left) old.source.taken false old.session.answered entries w NoMemory) (sym text)
      (out_of_memory laws plans old.source.taken old.source.left old.session.answered p.middle entries p.text (interim_of p.message) p.answers
      (early_of p.middle p.message old.session.buffer (interim_of p.message) p.reads refl))));
  in_memory = tt;
}
  where
    text : new.sink.written ≡ p.text ++ (interim_of p.message ++ unavailable_text)
    text = written ∙ (ap (λ w. w ++ unavailable_text) p.written ∙ append_assoc p.text (interim_of p.message) unavailable_text)

module _ (laws : ReadStays) (plans : TaskPlans) (bytes : List ℕ) (entries : List Entry) (t : Task) (old new : Connection) (e : Entry) (r : Reply)
    (p : IsAtTask plans bytes entries t old) (task : plans.task_of e ≡ t) (reply : plans.reply_of e ≡ r) (source : new.source ≡ old.source) where
  how : Pending
  how = record { head_only = is_head p.message; close = closes p.message (old.session.answered + 1) }

  answer : IsAnswer plans (plans.plan p.message) r (e ∷ [])
  answer = subst (λ (a : Planned Task). IsAnswer plans a r (e ∷ [])) (sym p.planned) (e, refl, task, sym reply)

  text_now : (w : List ℕ) → w ≡ old.sink.written ++ reply_text r (is_head p.message) (closes p.message (old.session.answered + 1)) → w ≡ p.text ++ sent_for p.message (old.session.answered + 1) r
  text_now w written = written ∙ (ap (λ w. w ++ reply_text r (is_head p.message) (closes p.message (old.session.answered + 1))) p.written ∙ append_assoc p.text (interim_of p.message) _)

  pub replied_open : IfSome old.session.pending (λ q. Replies q r old.session new.session (sink_told old.sink) (sink_told new.sink) None)
      → IsBetweenTwo plans bytes (entries ++ e ∷ []) new
  unfolding how
  replied_open sent =
      let done = replies_of old.session.pending how r old.session new.session (sink_told old.sink) (sink_told new.sink) None p.pending sent in
      record {
        whole = p.whole ∙ ap (λ s. s.taken ++ s.left) (sym source);
        answers =
            subst (λ s. Answers plans 0 s.taken new.session.answered new.session.buffer (entries ++ e ∷ []) new.sink.written) (sym source)
            (subst (λ s. Answers plans 0 old.source.taken s.answered s.buffer (entries ++ e ∷ []) new.sink.written) (sym done.2)
            (subst (λ w. Answers plans 0 old.source.taken (old.session.answered + 1) old.session.buffer (entries ++ e ∷ []) w) (sym (text_now new.sink.written done.0))
            (answers_then plans 0 old.source.taken old.session.answered p.middle (old.session.answered + 1) old.session.buffer entries (e ∷ []) p.text (sent_for p.message (old.session.answered + 1) r) p.answers
            (answers_one plans old.session.answered p.middle (exchange_of old.session.answered p.message r (e ∷ [])) old.session.buffer p.reads refl answer done.1))));
        few = subst (λ s. s.answered < MESSAGE_LIMIT) (sym done.2) (few_more p.message (old.session.answered + 1) (omega (arith, p.few)) done.1);
      }

  pub replied_closed : IfSome old.session.pending (λ q. Replies q r old.session new.session (sink_told old.sink) (sink_told new.sink) (Some Closed))
      → IsOver plans bytes (entries ++ e ∷ []) Closed new
  unfolding how
  replied_closed sent =
      let done = replies_of old.session.pending how r old.session new.session (sink_told old.sink) (sink_told new.sink) (Some Closed) p.pending sent in
      record {
        answered = old.session.answered + 1;
        served =
            subst (λ s. Served plans 0 bytes s.taken false (old.session.answered + 1) (entries ++ e ∷ []) new.sink.written Closed) (sym source)
            (subst (λ b. Served plans 0 b old.source.taken false (old.session.answered + 1) (entries ++ e ∷ []) new.sink.written Closed) (sym p.whole)
            (served_over laws plans 0 old.source.taken old.source.left false (old.session.answered + 1) (entries ++ e ∷ []) new.sink.written Closed
            (subst (λ w. Settles plans 0 old.source.taken (Some old.source.left) false (old.session.answered + 1) (entries ++ e ∷ []) w Closed) (sym (text_now new.sink.written done.0))
            (settles_then plans 0 old.source.taken old.session.answered p.middle (Some old.source.left) false (old.session.answered + 1) entries (e ∷ []) p.text (sent_for p.message (old.session.answered + 1) r) Closed p.answers
            (settles_last plans old.session.answered p.middle (Some old.source.left) false (exchange_of old.session.answered p.message r (e ∷ [])) old.session.buffer p.reads refl answer done.1)))));
        in_memory = tt;
      }

-- ---- the laws

ends : ReadStays → (plans : TaskPlans) (bytes : List ℕ) (entries : List Entry) (old new : Connection) (end : SessionEnd) → IsMemoryEnd end → ¬ (end ≡ NoMemory)
    → IsBetweenTwo plans bytes entries old → CallsNext plans old new (next.Ended end) → IsOver plans bytes entries end new
ends laws plans bytes entries old new Closed memory other p q = ends_closed laws plans bytes entries old new p q
ends laws plans bytes entries old new (Refused s) memory other p q = ends_refused laws plans bytes entries old new s p q
ends laws plans bytes entries old new CutShort memory other p q = ends_cut laws plans bytes entries old new p q
ends laws plans bytes entries old new ReadFault memory other p q = absurd memory
ends laws plans bytes entries old new WriteFault memory other p q = absurd memory
ends laws plans bytes entries old new NoMemory memory other p q = absurd (other refl)
ends laws plans bytes entries old new Worn memory other p q = absurd memory

pub go_on : ReadStays → SessionsGoOn
go_on laws = record {
  begins = begins;
  asks = λ plans bytes entries old new t p q. asks laws plans bytes entries old new t p q;
  waits = waits;
  ends = ends laws;
  runs_out = ends_out laws;
  answered = λ plans bytes entries t old new e r p entry source sent. replied_open laws plans bytes entries t old new e r p entry.task entry.reply source sent;
  closed = λ plans bytes entries t old new e r p entry source sent. replied_closed laws plans bytes entries t old new e r p entry.task entry.reply source sent;
  task_runs_out = task_out laws;
}
