-- Steps, one after another.
use Rattle.std.proofs.Common.{◌≡◌, ℕ, ◌<◌, false, List, [], ◌++◌, sym, ap, subst, ◌∙◌, append_assoc, append-nil, Some, None}
use Rattle.std.specs.Prelude.{IfSome}
use Rattle.std.specs.declared.option.Option.{Option}
use Rattle.std.specs.Io.KnownBytes.{Appends, Consumes}
use Rattle.outer_ends.specs.Told.{SourceTold, SinkTold}
use Rattle.outer_ends.specs.StreamLaws.{appends_none, appends_then, consumes_none, consumes_then}
use Rattle.outer_ends.specs.Causes.{Rose}
use Rattle.http_messages.specs.declared.ends.SessionEnd.{SessionEnd}
use Rattle.http_messages.specs.declared.ends.SessionEnd.TheVariants.{Closed, Refused, CutShort, ReadFault, WriteFault, NoMemory, Worn}
use Rattle.http_model.specs.Framings.{interim_of}
use Rattle.http_model.specs.Served.{RunsOut}
use Rattle.http_model.specs.Laws.{ReadStays}
use Rattle.task_forms.specs.declared.tasks.Task.{Task}
use Rattle.session_engine.specs.declared.sessions.Step.TheVariants as step
use Rattle.session_engine.specs.declared.sessions.Next.{Next}
use Rattle.session_engine.specs.declared.sessions.Next.TheVariants as next
use Rattle.session_engine.specs.Plans.{TaskPlans}
use Rattle.session_engine.specs.States.{SessionState}
use Rattle.session_engine.specs.Seen.{Answers, RanOut, Asks, EndOn, StepSees, NextSees, EndCause, EndOver, NextServes}
use Rattle.http_messages.specs.declared.limits.TheConstants.{MESSAGE_LIMIT}
use Rattle.session_engine.proofs.Ends.{answers_none, answers_then, answers_more, settles_then, served_over}

-- from old to now, messages were answered with fixed replies
pub record Going (plans : TaskPlans) (old now : SessionState) (source source_now : SourceTold) (sink sink_now : SinkTold) : Type 0 where
  pub bytes : List ℕ
  pub taken_more : Appends source.taken source_now.taken bytes
  pub left_less : Consumes source.left source_now.left bytes
  pub sent : List ℕ
  pub written_more : Appends sink.written sink_now.written sent
  pub before : Answers plans old.answered (old.buffer ++ bytes) now.answered now.buffer [] sent
  pub few : now.answered < MESSAGE_LIMIT

pub going_none : (plans : TaskPlans) (old : SessionState) (t : SourceTold) (w : SinkTold) → old.answered < MESSAGE_LIMIT → Going plans old old t t w w
going_none plans old t w few = record {
  bytes = [];
  taken_more = appends_none t.taken;
  left_less = consumes_none t.left;
  sent = [];
  written_more = appends_none w.written;
  before = subst (λ (b : List ℕ). Answers plans old.answered (old.buffer ++ []) old.answered b [] []) (append-nil old.buffer) (answers_none plans old.answered (old.buffer ++ []));
  few = few;
}

-- what was answered, over what a further call has seen
pub over_more : ReadStays → (plans : TaskPlans) (i : ℕ) (buffer bytes : List ℕ) (j : ℕ) (rest more sent : List ℕ) → Answers plans i (buffer ++ bytes) j rest [] sent
    → Answers plans i (buffer ++ (bytes ++ more)) j (rest ++ more) [] sent
over_more laws plans i buffer bytes j rest more sent h =
    subst (λ (s : List ℕ). Answers plans i s j (rest ++ more) [] sent) (append_assoc buffer bytes more) (answers_more laws plans i (buffer ++ bytes) j rest more [] sent h)

pub asks_then : (plans : TaskPlans) (i : ℕ) (a : List ℕ) (j : ℕ) (b : List ℕ) (now : SessionState) (s t : List ℕ) (task : Task) → Answers plans i a j b [] s → Asks plans j b now t task
    → Asks plans i a now (s ++ t) task
asks_then plans i a j b now s t task p q = record {
  middle = q.middle;
  text = s ++ q.text;
  before = answers_then plans i a j b now.answered q.middle [] [] s q.text p q.before;
  message = q.message;
  reads = q.reads;
  planned = q.planned;
  pending = q.pending;
  whole = ap (λ (l : List ℕ). s ++ l) q.whole ∙ sym (append_assoc s q.text (interim_of q.message));
  few = q.few;
}

pub out_then : (plans : TaskPlans) (i : ℕ) (a : List ℕ) (j : ℕ) (b : List ℕ) (k : ℕ) (s t : List ℕ) → Answers plans i a j b [] s → RanOut plans j b k [] t
    → RanOut plans i a k [] (s ++ t)
out_then plans i a j b k s t p q = record {
  rest = q.rest;
  text = s ++ q.text;
  before = answers_then plans i a j b k q.rest [] [] s q.text p q.before;
  early = q.early;
  is_early = q.is_early;
  whole = ap (λ (l : List ℕ). s ++ l) q.whole ∙ sym (append_assoc s q.text q.early);
}

end_then : (plans : TaskPlans) (i : ℕ) (a : List ℕ) (j : ℕ) (b : List ℕ) (left : Option (List ℕ)) (k : ℕ) (s t : List ℕ) (end : SessionEnd)
    → Answers plans i a j b [] s → EndOn plans j b left k t end → EndOn plans i a left k (s ++ t) end
end_then plans i a j b left k s t NoMemory p q = out_then plans i a j b k s t p q
end_then plans i a j b left k s t Closed p q = settles_then plans i a j b left false k [] [] s t Closed p q
end_then plans i a j b left k s t (Refused r) p q = settles_then plans i a j b left false k [] [] s t (Refused r) p q
end_then plans i a j b left k s t CutShort p q = settles_then plans i a j b left false k [] [] s t CutShort p q
end_then plans i a j b left k s t ReadFault p q = settles_then plans i a j b left false k [] [] s t ReadFault p q
end_then plans i a j b left k s t WriteFault p q = settles_then plans i a j b left false k [] [] s t WriteFault p q
end_then plans i a j b left k s t Worn p q = settles_then plans i a j b left false k [] [] s t Worn p q

pub going_more : ReadStays → (plans : TaskPlans) (old mid now : SessionState) (t u v : SourceTold) (w x y : SinkTold) → Going plans old mid t u w x
    → StepSees plans mid now u v x y step.Answered → Going plans old now t v w y
going_more laws plans old mid now t u v w x y p q = record {
  bytes = p.bytes ++ q.bytes;
  taken_more = appends_then t.taken u.taken v.taken p.bytes q.bytes p.taken_more q.taken_more;
  left_less = consumes_then t.left u.left v.left p.bytes q.bytes p.left_less q.left_less;
  sent = p.sent ++ q.sent;
  written_more = appends_then w.written x.written y.written p.sent q.sent p.written_more q.written_more;
  before = answers_then plans old.answered (old.buffer ++ (p.bytes ++ q.bytes)) mid.answered (mid.buffer ++ q.bytes) now.answered now.buffer [] [] p.sent q.sent
      (over_more laws plans old.answered old.buffer p.bytes mid.answered mid.buffer q.bytes p.sent p.before) q.verdict.0;
  few = q.verdict.2;
}

pub going_task : ReadStays → (plans : TaskPlans) (old mid now : SessionState) (t u v : SourceTold) (w x y : SinkTold) (task : Task) → Going plans old mid t u w x
    → StepSees plans mid now u v x y (step.Task task) → NextSees plans old now t v w y (next.Task task)
going_task laws plans old mid now t u v w x y task p q = record {
  bytes = p.bytes ++ q.bytes;
  taken_more = appends_then t.taken u.taken v.taken p.bytes q.bytes p.taken_more q.taken_more;
  left_less = consumes_then t.left u.left v.left p.bytes q.bytes p.left_less q.left_less;
  sent = p.sent ++ q.sent;
  written_more = appends_then w.written x.written y.written p.sent q.sent p.written_more q.written_more;
  verdict = asks_then plans old.answered (old.buffer ++ (p.bytes ++ q.bytes)) mid.answered (mid.buffer ++ q.bytes) now p.sent q.sent task
      (over_more laws plans old.answered old.buffer p.bytes mid.answered mid.buffer q.bytes p.sent p.before) q.verdict;
}

pub going_end : ReadStays → (plans : TaskPlans) (old mid now : SessionState) (t u v : SourceTold) (w x y : SinkTold) (end : SessionEnd) → Going plans old mid t u w x
    → StepSees plans mid now u v x y (step.Ended end) → NextSees plans old now t v w y (next.Ended end)
going_end laws plans old mid now t u v w x y end p q = record {
  bytes = p.bytes ++ q.bytes;
  taken_more = appends_then t.taken u.taken v.taken p.bytes q.bytes p.taken_more q.taken_more;
  left_less = consumes_then t.left u.left v.left p.bytes q.bytes p.left_less q.left_less;
  sent = p.sent ++ q.sent;
  written_more = appends_then w.written x.written y.written p.sent q.sent p.written_more q.written_more;
  verdict = end_then plans old.answered (old.buffer ++ (p.bytes ++ q.bytes)) mid.answered (mid.buffer ++ q.bytes) v.left now.answered p.sent q.sent end
      (over_more laws plans old.answered old.buffer p.bytes mid.answered mid.buffer q.bytes p.sent p.before) q.verdict;
}

-- ---- causes

pub cause_then : (r s u : SourceTold) (w x y : SinkTold) (end : SessionEnd) → s.faults ≡ r.faults → x.faults ≡ w.faults → EndCause s u x y end → EndCause r u w y end
cause_then r s u w x y ReadFault e f h = (subst (λ (a : ℕ). Rose a u.faults) e h.0, h.1 ∙ f)
cause_then r s u w x y WriteFault e f h = (subst (λ (a : ℕ). Rose a y.faults) f h.0, h.1 ∙ e)
cause_then r s u w x y Closed e f h = (h.0 ∙ e, h.1 ∙ f)
cause_then r s u w x y (Refused k) e f h = (h.0 ∙ e, h.1 ∙ f)
cause_then r s u w x y CutShort e f h = (h.0 ∙ e, h.1 ∙ f)
cause_then r s u w x y NoMemory e f h = (h.0 ∙ e, h.1 ∙ f)
cause_then r s u w x y Worn e f h = (h.0 ∙ e, h.1 ∙ f)

-- ---- by all that stood there

-- want of memory, as the definition of sessions has it, over more bytes
out_over : ReadStays → (plans : TaskPlans) (i : ℕ) (a y : List ℕ) (k : ℕ) (s : List ℕ) → RanOut plans i a k [] s → RunsOut plans i (a ++ y) k [] s
out_over laws plans i a y k s h =
    let more = answers_more laws plans i a k h.rest y [] h.text h.before in
    record {
      exchanges = more.exchanges;
      rest = h.rest ++ y;
      early = h.early;
      runs = more.runs;
      stays = more.stays;
      is_early = laws.early h.rest y h.early h.is_early;
      joined = more.joined;
      sent = h.whole ∙ ap (λ (l : List ℕ). l ++ h.early) more.text;
    }

end_over : ReadStays → (plans : TaskPlans) (i : ℕ) (a y : List ℕ) (k : ℕ) (s : List ℕ) (end : SessionEnd)
    → EndOn plans i a (Some y) k s end → EndOver plans i (a ++ y) a k s end
end_over laws plans i a y k s NoMemory h = out_over laws plans i a y k s h
end_over laws plans i a y k s Closed h = served_over laws plans i a y false k [] s Closed h
end_over laws plans i a y k s (Refused r) h = served_over laws plans i a y false k [] s (Refused r) h
end_over laws plans i a y k s CutShort h = served_over laws plans i a y false k [] s CutShort h
end_over laws plans i a y k s ReadFault h = served_over laws plans i a y false k [] s ReadFault h
end_over laws plans i a y k s WriteFault h = served_over laws plans i a y false k [] s WriteFault h
end_over laws plans i a y k s Worn h = served_over laws plans i a y false k [] s Worn h

end_told : ReadStays → (plans : TaskPlans) (i : ℕ) (buffer bytes : List ℕ) (left now : Option (List ℕ)) (k : ℕ) (s : List ℕ) (end : SessionEnd)
    → Consumes left now bytes → EndOn plans i (buffer ++ bytes) now k s end
    → IfSome left (λ more. EndOver plans i (buffer ++ more) (buffer ++ bytes) k s end)
end_told laws plans i buffer bytes None now k s end p h = tt
end_told laws plans i buffer bytes (Some more) None k s end p h = absurd p
end_told laws plans i buffer bytes (Some more) (Some y) k s end p h =
    subst (λ (l : List ℕ). EndOver plans i l (buffer ++ bytes) k s end) (append_assoc buffer bytes y ∙ ap (λ (l : List ℕ). buffer ++ l) (sym p))
    (end_over laws plans i (buffer ++ bytes) y k s end h)

pub next_told : ReadStays → (plans : TaskPlans) (old now : SessionState) (t u : SourceTold) (w x : SinkTold) (result : Next)
    → NextSees plans old now t u w x result → NextServes plans old now t u w x result
next_told laws plans old now t u w x (next.Task task) h = tt
next_told laws plans old now t u w x (next.Ended end) h = record {
  bytes = h.bytes;
  taken_more = h.taken_more;
  left_less = h.left_less;
  sent = h.sent;
  written_more = h.written_more;
  verdict = end_told laws plans old.answered old.buffer h.bytes t.left u.left now.answered h.sent end h.left_less h.verdict;
}
