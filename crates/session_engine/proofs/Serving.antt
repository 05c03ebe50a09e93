-- A session over a desk, so far.
use Rattle.std.proofs.Common.{◌≡◌, ℕ, ◌+◌, ◌-◌, ◌<◌, ◌≤◌, Bool, true, false, List, [], ◌∷◌, ◌++◌, length, refl, sym, ap, subst, ◌∙◌, arith, append_assoc, append-nil, inl, inr, Some, None}
use Rattle.std.specs.Prelude.{IsTrue, IfSome}
use Rattle.std.proofs.lemmas.Bool.{false≢true}
use Rattle.std.specs.declared.option.Option.{Option}
use Rattle.std.specs.Io.KnownBytes.{Appends, Consumes}
use Rattle.outer_ends.specs.Told.{SourceTold, SinkTold}
use Rattle.outer_ends.specs.StreamLaws.{appends_none, appends_then, consumes_none, consumes_then}
use Rattle.http_messages.specs.declared.messages.Message.{Message}
use Rattle.http_messages.specs.declared.messages.Reply.{Reply}
use Rattle.http_messages.specs.declared.messages.Stop.TheVariants as halt
use Rattle.http_messages.specs.declared.ends.SessionEnd.{SessionEnd}
use Rattle.http_messages.specs.declared.ends.SessionEnd.TheVariants.{Closed, Refused, CutShort, ReadFault, WriteFault, NoMemory, Worn}
use Rattle.http_messages.specs.ReplyText.{reply_text, unavailable_text, stop_text}
use Rattle.http_model.specs.Framings.{closes, interim_of, is_head}
use Rattle.http_model.specs.MessageLaws.{few_more}
use Rattle.http_model.specs.Requests.{ReadsMessage}
use Rattle.http_model.specs.Exchanges.{Planned, planned_task, Exchange, IsAnswer, Runs, sent_for}
use Rattle.http_model.specs.Rests.{IsEarly}
use Rattle.http_model.specs.Served.{EndsTask, EndIs, in_reply, in_last}
use Rattle.http_model.specs.Laws.{ReadStays}
use Rattle.world_cells.specs.World.{World}
use Rattle.task_forms.specs.declared.tasks.Task.{Task}
use Rattle.task_forms.specs.declared.tasks.Entry.{Entry}
use Rattle.task_forms.specs.declared.desk.DeskEnd.{DeskEnd}
use Rattle.task_forms.specs.declared.desk.DeskEnd.TheVariants as desk
use Rattle.task_forms.specs.Desks.{Joins, Refuses, last_number}
use Rattle.session_engine.specs.declared.sessions.Pending.{Pending}
use Rattle.session_engine.specs.declared.sessions.Next.TheVariants as next
use Rattle.task_forms.specs.declared.tasks.Plan.{Plan}
use Rattle.session_engine.specs.Plans.{TaskPlans, plans_of}
use Rattle.session_engine.specs.States.{SessionState}
use Rattle.session_engine.specs.Finishing.{Finishes, WritesStop}
use Rattle.session_engine.specs.Seen.{Answers, RanOut, Settles, NextSees, Replies, Serves, IfWorn, Standing}
use Rattle.session_engine.proofs.Ends.{answers_none, answers_one, answers_then, answers_more, settles_at, settles_last, settles_then, no_exchange, served_told}
use Rattle.http_messages.specs.declared.limits.TheConstants.{MESSAGE_LIMIT}
use Rattle.session_engine.proofs.Steps.{early_of, prefix_behind, exchange_of}

-- the desk stands for lists that begin with the old ones, by entries that answered the messages of these bytes
pub record Stood (plans : TaskPlans) (stands : List Entry → List Entry → Type 0) (seen mine : List Entry) (bytes : List ℕ) (answered : ℕ) (rest sent : List ℕ) : Type 0 where
  pub others : List Entry
  pub entries : List Entry
  pub now : stands (seen ++ others) (mine ++ entries)
  pub answers : Answers plans 0 bytes answered rest entries sent

abbrev pub StoodAll : TaskPlans → Standing → Standing → List ℕ → ℕ → List ℕ → List ℕ → Type 0
StoodAll plans old new bytes answered rest sent =
    (first : ℕ) (w : World) (seen mine : List Entry) → old first w seen mine → Stood plans (new first w) seen mine bytes answered rest sent

-- between two messages
pub record Serving (plans : TaskPlans) (old new : Standing) (now : SessionState) (source source_now : SourceTold) (sink sink_now : SinkTold) : Type 0 where
  pub bytes : List ℕ
  pub taken_more : Appends source.taken source_now.taken bytes
  pub left_less : Consumes source.left source_now.left bytes
  pub sent : List ℕ
  pub written_more : Appends sink.written sink_now.written sent
  pub each : StoodAll plans old new bytes now.answered now.buffer sent
  pub few : now.answered < MESSAGE_LIMIT

-- at a task
pub record Asking (plans : TaskPlans) (old new : Standing) (now : SessionState) (source source_now : SourceTold) (sink sink_now : SinkTold) (task : Task) : Type 0 where
  pub bytes : List ℕ
  pub taken_more : Appends source.taken source_now.taken bytes
  pub left_less : Consumes source.left source_now.left bytes
  pub text : List ℕ
  pub middle : List ℕ
  pub message : Message
  pub written_more : Appends sink.written sink_now.written (text ++ interim_of message)
  pub each : StoodAll plans old new bytes now.answered middle text
  pub reads : ReadsMessage middle message now.buffer
  pub planned : plans.plan message ≡ planned_task task
  pub pending : now.pending ≡ Some (record { head_only = is_head message; close = closes message (now.answered + 1) })
  pub few : now.answered < MESSAGE_LIMIT

-- ---- the start

pub serving_none : (plans : TaskPlans) (old : Standing) (now : SessionState) (t : SourceTold) (w : SinkTold) → now ≡ record { answered = 0; buffer = []; pending = None }
    → Serving plans old old now t t w w
serving_none plans old now t w e = record {
  bytes = [];
  taken_more = appends_none t.taken;
  left_less = consumes_none t.left;
  sent = [];
  written_more = appends_none w.written;
  each = λ first world seen mine h. record {
    others = [];
    entries = [];
    now = subst (λ (s : List Entry). old first world s (mine ++ [])) (sym (append-nil seen)) (subst (old first world seen) (sym (append-nil mine)) h);
    answers = subst (λ (s : SessionState). Answers plans 0 [] s.answered s.buffer [] []) (sym e) (answers_none plans 0 []);
  };
  few = subst (λ (s : SessionState). s.answered < MESSAGE_LIMIT) (sym e) (omega arith);
}

-- ---- a call of next

-- what was answered, over what a further call has seen, and what that answered
stood_more : ReadStays → (plans : TaskPlans) (stands : List Entry → List Entry → Type 0) (seen mine : List Entry) (bytes more : List ℕ) (j : ℕ) (buffer : List ℕ) (k : ℕ) (rest s t : List ℕ)
    → Stood plans stands seen mine bytes j buffer s → Answers plans j (buffer ++ more) k rest [] t → Stood plans stands seen mine (bytes ++ more) k rest (s ++ t)
stood_more laws plans stands seen mine bytes more j buffer k rest s t p q = record {
  others = p.others;
  entries = p.entries;
  now = p.now;
  answers = subst (λ (xs : List Entry). Answers plans 0 (bytes ++ more) k rest xs (s ++ t)) (append-nil p.entries)
      (answers_then plans 0 (bytes ++ more) j (buffer ++ more) k rest p.entries [] s t (answers_more laws plans 0 bytes j buffer more p.entries s p.answers) q);
}

pub asking_of : ReadStays → (plans : TaskPlans) (old new : Standing) (mid now : SessionState) (t u v : SourceTold) (w x y : SinkTold) (task : Task)
    → Serving plans old new mid t u w x → NextSees plans mid now u v x y (next.Task task) → Asking plans old new now t v w y task
asking_of laws plans old new mid now t u v w x y task p q = record {
  bytes = p.bytes ++ q.bytes;
  taken_more = appends_then t.taken u.taken v.taken p.bytes q.bytes p.taken_more q.taken_more;
  left_less = consumes_then t.left u.left v.left p.bytes q.bytes p.left_less q.left_less;
  text = p.sent ++ q.verdict.text;
  middle = q.verdict.middle;
  message = q.verdict.message;
  written_more = subst (Appends w.written y.written) (ap (λ (s : List ℕ). p.sent ++ s) q.verdict.whole ∙ sym (append_assoc p.sent q.verdict.text (interim_of q.verdict.message)))
      (appends_then w.written x.written y.written p.sent q.sent p.written_more q.written_more);
  each = λ first world seen mine h.
      stood_more laws plans (new first world) seen mine p.bytes q.bytes mid.answered mid.buffer now.answered q.verdict.middle p.sent q.verdict.text (p.each first world seen mine h) q.verdict.before;
  reads = q.verdict.reads;
  planned = q.verdict.planned;
  pending = q.verdict.pending;
  few = q.verdict.few;
}

-- ---- the ends

worn_of : (plans : TaskPlans) (worn : Bool) (xs : List (Exchange Entry)) (answered : ℕ) (rest : List ℕ) (more : List Entry) (tail : List ℕ) (end : SessionEnd)
    → EndIs plans worn xs answered rest more tail end → IfWorn end (IsTrue worn)
worn_of plans worn xs answered rest more tail Worn h = h.3
worn_of plans worn xs answered rest more tail Closed h = tt
worn_of plans worn xs answered rest more tail (Refused s) h = tt
worn_of plans worn xs answered rest more tail CutShort h = tt
worn_of plans worn xs answered rest more tail ReadFault h = tt
worn_of plans worn xs answered rest more tail WriteFault h = tt
worn_of plans worn xs answered rest more tail NoMemory h = tt

-- an end behind what was answered
pub serves_of : ReadStays → (plans : TaskPlans) (stands : List Entry → List Entry → Type 0) (first : ℕ) (seen mine others : List Entry) (entries : List Entry)
    (t u : SourceTold) (w x : SinkTold) (bytes out : List ℕ) (k : ℕ) (worn : Bool) (end : SessionEnd)
    → stands (seen ++ others) (mine ++ entries) → (IsTrue worn → first + length (seen ++ others) ≡ last_number) → Appends t.taken u.taken bytes → Consumes t.left u.left bytes → Appends w.written x.written out
    → Settles plans 0 bytes u.left worn k entries out end → Serves plans stands first seen mine t u w x k end
serves_of laws plans stands first seen mine others entries t u w x bytes out k worn end stood at_last taken left written h = record {
  others = others;
  entries = entries;
  stood = stood;
  worn = worn;
  wearing = at_last;
  ends_worn = worn_of plans worn h.served.exchanges k h.served.rest h.served.more h.served.tail end h.served.ends;
  bytes = bytes;
  taken_more = taken;
  left_less = left;
  out = out;
  written_more = written;
  served = served_told laws plans 0 bytes t.left u.left worn k entries out end left h;
}

never_worn : (P : Type 0) → IsTrue false → P
never_worn P h = absurd (false≢true h)

-- the same, where the end is that of what stands behind what was answered
serves_with : ReadStays → (plans : TaskPlans) (stands : List Entry → List Entry → Type 0) (first : ℕ) (seen mine others : List Entry) (xs ys : List Entry)
    (t u : SourceTold) (w x : SinkTold) (bytes sent tail : List ℕ) (j k : ℕ) (rest : List ℕ) (worn : Bool) (end : SessionEnd)
    → stands (seen ++ others) (mine ++ (xs ++ ys)) → (IsTrue worn → first + length (seen ++ others) ≡ last_number) → Appends t.taken u.taken bytes → Consumes t.left u.left bytes → Appends w.written x.written (sent ++ tail)
    → Answers plans 0 bytes j rest xs sent → Settles plans j rest u.left worn k ys tail end → Serves plans stands first seen mine t u w x k end
serves_with laws plans stands first seen mine others xs ys t u w x bytes sent tail j k rest worn end stood at_last taken left written p q =
    serves_of laws plans stands first seen mine others (xs ++ ys) t u w x bytes (sent ++ tail) k worn end stood at_last taken left written
    (settles_then plans 0 bytes j rest u.left worn k xs ys sent tail end p q)

serves_behind : ReadStays → (plans : TaskPlans) (stands : List Entry → List Entry → Type 0) (first : ℕ) (seen mine : List Entry)
    (t u : SourceTold) (w x : SinkTold) (bytes sent tail : List ℕ) (j k : ℕ) (rest : List ℕ) (worn : Bool) (end : SessionEnd) (h : Stood plans stands seen mine bytes j rest sent)
    → (IsTrue worn → first + length (seen ++ h.others) ≡ last_number) → Appends t.taken u.taken bytes → Consumes t.left u.left bytes → Appends w.written x.written (sent ++ tail)
    → Settles plans j rest u.left worn k [] tail end → Serves plans stands first seen mine t u w x k end
serves_behind laws plans stands first seen mine t u w x bytes sent tail j k rest worn end h at_last taken left written q =
    serves_with laws plans stands first seen mine h.others h.entries [] t u w x bytes sent tail j k rest worn end
    (subst (λ (xs : List Entry). stands (seen ++ h.others) (mine ++ xs)) (sym (append-nil h.entries)) h.now) at_last taken left written h.answers q

-- memory ran out behind what was answered, and the last text was written or cut
out_settles : (plans : TaskPlans) (i : ℕ) (rest : List ℕ) (left : Option (List ℕ)) (early : List ℕ) → IsEarly rest early
    → Settles plans i rest left false i [] (early ++ unavailable_text) NoMemory
out_settles plans i rest left early h =
    settles_at plans i rest left false [] (early ++ unavailable_text) NoMemory (no_exchange, record { early = early; is_early = h; whole = refl }, refl) (inr tt)

out_cut : (plans : TaskPlans) (i : ℕ) (rest : List ℕ) (left : Option (List ℕ)) (early sent missing : List ℕ) → IsEarly rest early → 0 < length missing
    → unavailable_text ≡ sent ++ missing → Settles plans i rest left false i [] (early ++ sent) WriteFault
out_cut plans i rest left early sent missing h some e =
    settles_at plans i rest left false [] (early ++ sent) WriteFault
    (no_exchange, (early ++ unavailable_text, in_last (record { early = early; is_early = h; whole = refl }) refl, prefix_behind early sent unavailable_text missing some e)) (inr tt)

stood_grown : ReadStays → (plans : TaskPlans) (stands : List Entry → List Entry → Type 0) (seen mine : List Entry) (bytes more : List ℕ) (j : ℕ) (buffer s : List ℕ)
    → Stood plans stands seen mine bytes j buffer s → Stood plans stands seen mine (bytes ++ more) j (buffer ++ more) s
stood_grown laws plans stands seen mine bytes more j buffer s p =
    record { others = p.others; entries = p.entries; now = p.now; answers = answers_more laws plans 0 bytes j buffer more p.entries s p.answers }

-- ---- an end of next

module _ (laws : ReadStays) (plans : TaskPlans) (old new : Standing) (mid now : SessionState) (t u v : SourceTold) (w x y : SinkTold) where
  -- an end with no further text
  plain_end : (end : SessionEnd) (p : Serving plans old new mid t u w x) (bytes sent : List ℕ) → Appends u.taken v.taken bytes → Consumes u.left v.left bytes → Appends x.written y.written sent
      → Settles plans mid.answered (mid.buffer ++ bytes) v.left false now.answered [] sent end
      → (first : ℕ) (world : World) (seen mine : List Entry) → old first world seen mine → Serves plans (new first world) first seen mine t v w y now.answered end
  plain_end end p bytes sent taken left written q first world seen mine h =
      serves_behind laws plans (new first world) first seen mine t v w y (p.bytes ++ bytes) p.sent sent mid.answered now.answered (mid.buffer ++ bytes) false end
      (stood_grown laws plans (new first world) seen mine p.bytes bytes mid.answered mid.buffer p.sent (p.each first world seen mine h))
      (never_worn _)
      (appends_then t.taken u.taken v.taken p.bytes bytes p.taken_more taken)
      (consumes_then t.left u.left v.left p.bytes bytes p.left_less left)
      (appends_then w.written x.written y.written p.sent sent p.written_more written)
      q

  -- want of memory, with the last text or a part of it
  out_end : (z : SinkTold) (end : SessionEnd) (p : Serving plans old new mid t u w x) (bytes sent last : List ℕ) → Appends u.taken v.taken bytes → Consumes u.left v.left bytes → Appends x.written y.written sent → Appends y.written z.written last
      → (q : RanOut plans mid.answered (mid.buffer ++ bytes) now.answered [] sent)
      → Settles plans now.answered q.rest v.left false now.answered [] (q.early ++ last) end
      → (first : ℕ) (world : World) (seen mine : List Entry) → old first world seen mine → Serves plans (new first world) first seen mine t v w z now.answered end
  out_end z end p bytes sent last taken left written written_last q settled first world seen mine h =
      serves_behind laws plans (new first world) first seen mine t v w z (p.bytes ++ bytes) (p.sent ++ q.text) (q.early ++ last) now.answered now.answered q.rest false end
      (stood_more laws plans (new first world) seen mine p.bytes bytes mid.answered mid.buffer now.answered q.rest p.sent q.text (p.each first world seen mine h) q.before)
      (never_worn _)
      (appends_then t.taken u.taken v.taken p.bytes bytes p.taken_more taken)
      (consumes_then t.left u.left v.left p.bytes bytes p.left_less left)
      (subst (Appends w.written z.written) (regroup p.sent q.text q.early last sent q.whole) (appends_then w.written y.written z.written (p.sent ++ sent) last (appends_then w.written x.written y.written p.sent sent p.written_more written) written_last))
      settled
    where
      regroup : (a b c d e : List ℕ) → e ≡ b ++ c → (a ++ e) ++ d ≡ (a ++ b) ++ (c ++ d)
      regroup a b c d e h = ap (λ (k : List ℕ). (a ++ k) ++ d) h ∙ simp append_assoc

  -- the end has no text of its own
  named : (z : SinkTold) (end result : SessionEnd) → (result ≡ end) × (z.written ≡ y.written) → (first : ℕ) (seen mine : List Entry) (stands : List Entry → List Entry → Type 0)
      → Serves plans stands first seen mine t v w y now.answered end → Serves plans stands first seen mine t v w z now.answered result
  named z end result f first seen mine stands h =
      subst (λ (e : SessionEnd). Serves plans stands first seen mine t v w z now.answered e) (sym f.0)
      (record {
        others = h.others;
        entries = h.entries;
        stood = h.stood;
        worn = h.worn;
        wearing = h.wearing;
        ends_worn = h.ends_worn;
        bytes = h.bytes;
        taken_more = h.taken_more;
        left_less = h.left_less;
        out = h.out;
        written_more = subst (λ (k : Option (List ℕ)). Appends w.written k h.out) (sym f.1) h.written_more;
        served = h.served;
      })

  pub serve_end : (z : SinkTold) (end result : SessionEnd) → Serving plans old new mid t u w x → NextSees plans mid now u v x y (next.Ended end) → Finishes end y z result
      → (first : ℕ) (world : World) (seen mine : List Entry) → old first world seen mine → Serves plans (new first world) first seen mine t v w z now.answered result
  serve_end z NoMemory NoMemory p q f =
      out_end z NoMemory p q.bytes q.sent unavailable_text q.taken_more q.left_less q.written_more f q.verdict
      (out_settles plans now.answered q.verdict.rest v.left q.verdict.early q.verdict.is_early)
  serve_end z NoMemory WriteFault p q f =
      out_end z WriteFault p q.bytes q.sent f.sent q.taken_more q.left_less q.written_more f.appended q.verdict
      (out_cut plans now.answered q.verdict.rest v.left q.verdict.early f.sent f.missing q.verdict.is_early f.some_missing f.parts)
  serve_end z NoMemory Closed p q f = absurd f
  serve_end z NoMemory (Refused s) p q f = absurd f
  serve_end z NoMemory CutShort p q f = absurd f
  serve_end z NoMemory ReadFault p q f = absurd f
  serve_end z NoMemory Worn p q f = absurd f
  serve_end z Closed result p q f = λ first world seen mine h.
      named z Closed result f first seen mine (new first world) (plain_end Closed p q.bytes q.sent q.taken_more q.left_less q.written_more q.verdict first world seen mine h)
  serve_end z (Refused s) result p q f = λ first world seen mine h.
      named z (Refused s) result f first seen mine (new first world) (plain_end (Refused s) p q.bytes q.sent q.taken_more q.left_less q.written_more q.verdict first world seen mine h)
  serve_end z CutShort result p q f = λ first world seen mine h.
      named z CutShort result f first seen mine (new first world) (plain_end CutShort p q.bytes q.sent q.taken_more q.left_less q.written_more q.verdict first world seen mine h)
  serve_end z ReadFault result p q f = λ first world seen mine h.
      named z ReadFault result f first seen mine (new first world) (plain_end ReadFault p q.bytes q.sent q.taken_more q.left_less q.written_more q.verdict first world seen mine h)
  serve_end z WriteFault result p q f = λ first world seen mine h.
      named z WriteFault result f first seen mine (new first world) (plain_end WriteFault p q.bytes q.sent q.taken_more q.left_less q.written_more q.verdict first world seen mine h)
  serve_end z Worn result p q f = λ first world seen mine h.
      named z Worn result f first seen mine (new first world) (plain_end Worn p q.bytes q.sent q.taken_more q.left_less q.written_more q.verdict first world seen mine h)

-- ---- at a task

stood_refused : (plans : TaskPlans) (stands later : List Entry → List Entry → Type 0) (first : ℕ) (seen mine : List Entry) (bytes : List ℕ) (j : ℕ) (rest s : List ℕ) (e : _)
    (p : Stood plans stands seen mine bytes j rest s) → Refuses later first (seen ++ p.others) (mine ++ p.entries) e → Stood plans later seen mine bytes j rest s
stood_refused plans stands later first seen mine bytes j rest s e p q = record {
  others = p.others ++ q.others;
  entries = p.entries;
  now = subst (λ (l : List Entry). later l (mine ++ p.entries)) (append_assoc seen p.others q.others) q.now;
  answers = p.answers;
}

-- ---- the desk has no answer

module _ (laws : ReadStays) (plans : TaskPlans) (old new later : Standing) (now : SessionState) (t u : SourceTold) (w x y : SinkTold) (task : Task)
    (p : Asking plans old new now t u w x task) where
  asked_early : IsEarly p.middle (interim_of p.message)
  asked_early = early_of p.middle p.message now.buffer (interim_of p.message) p.reads refl

  written_then : (last : List ℕ) → Appends x.written y.written last → Appends w.written y.written (p.text ++ (interim_of p.message ++ last))
  written_then last h = subst (Appends w.written y.written) (append_assoc p.text (interim_of p.message) last) (appends_then w.written x.written y.written (p.text ++ interim_of p.message) last p.written_more h)

  pub serve_out : (result : SessionEnd) → Finishes NoMemory x y result
      → ((first : ℕ) (world : World) (seen mine : List Entry) → new first world seen mine → Refuses (later first world) first seen mine desk.NoMemory)
      → (first : ℕ) (world : World) (seen mine : List Entry) → old first world seen mine → Serves plans (later first world) first seen mine t u w y now.answered result
  serve_out NoMemory f refused first world seen mine h =
      let s = p.each first world seen mine h in
      serves_behind laws plans (later first world) first seen mine t u w y p.bytes p.text (interim_of p.message ++ unavailable_text) now.answered now.answered p.middle false NoMemory
      (stood_refused plans (new first world) (later first world) first seen mine p.bytes now.answered p.middle p.text desk.NoMemory s (refused first world _ _ s.now))
      (never_worn _) p.taken_more p.left_less (written_then unavailable_text f)
      (out_settles plans now.answered p.middle u.left (interim_of p.message) asked_early)
  serve_out WriteFault f refused first world seen mine h =
      let s = p.each first world seen mine h in
      serves_behind laws plans (later first world) first seen mine t u w y p.bytes p.text (interim_of p.message ++ f.sent) now.answered now.answered p.middle false WriteFault
      (stood_refused plans (new first world) (later first world) first seen mine p.bytes now.answered p.middle p.text desk.NoMemory s (refused first world _ _ s.now))
      (never_worn _) p.taken_more p.left_less (written_then f.sent f.appended)
      (out_cut plans now.answered p.middle u.left (interim_of p.message) f.sent f.missing asked_early f.some_missing f.parts)
  serve_out Closed f refused first world seen mine h = absurd f
  serve_out (Refused s) f refused first world seen mine h = absurd f
  serve_out CutShort f refused first world seen mine h = absurd f
  serve_out ReadFault f refused first world seen mine h = absurd f
  serve_out Worn f refused first world seen mine h = absurd f

  next_task : EndsTask plans p.middle (stop_text halt.Worn) (interim_of p.message ++ stop_text halt.Worn)
  next_task = record { message = p.message; after = now.buffer; reads = p.reads; task = task; planned = p.planned; whole = refl }

  at_number : (first : ℕ) (stands : List Entry → List Entry → Type 0) (seen mine others : List Entry) (r : Refuses stands first (seen ++ others) mine desk.Worn)
      → first + length (seen ++ (others ++ r.others)) ≡ last_number
  at_number first stands seen mine others r = ap (λ (k : List Entry). first + length k) (sym (append_assoc seen others r.others)) ∙ r.worn tt

  pub serve_worn : (result : SessionEnd) → WritesStop x y result
      → ((first : ℕ) (world : World) (seen mine : List Entry) → new first world seen mine → Refuses (later first world) first seen mine desk.Worn)
      → (first : ℕ) (world : World) (seen mine : List Entry) → old first world seen mine → Serves plans (later first world) first seen mine t u w y now.answered result
  unfolding stood_refused
  serve_worn Worn f refused first world seen mine h =
      let s = p.each first world seen mine h in
      let r = refused first world (seen ++ s.others) (mine ++ s.entries) s.now in
      serves_behind laws plans (later first world) first seen mine t u w y p.bytes p.text (interim_of p.message ++ stop_text halt.Worn) now.answered now.answered p.middle true Worn
      (stood_refused plans (new first world) (later first world) first seen mine p.bytes now.answered p.middle p.text desk.Worn s r)
      (λ _. at_number first (later first world) seen (mine ++ s.entries) s.others r) p.taken_more p.left_less (written_then (stop_text halt.Worn) f)
      (settles_at plans now.answered p.middle u.left true [] (interim_of p.message ++ stop_text halt.Worn) Worn (no_exchange, next_task, refl, refl) (inr tt))
  serve_worn WriteFault f refused first world seen mine h =
      let s = p.each first world seen mine h in
      let r = refused first world (seen ++ s.others) (mine ++ s.entries) s.now in
      serves_behind laws plans (later first world) first seen mine t u w y p.bytes p.text (interim_of p.message ++ f.sent) now.answered now.answered p.middle true WriteFault
      (stood_refused plans (new first world) (later first world) first seen mine p.bytes now.answered p.middle p.text desk.Worn s r)
      (λ _. at_number first (later first world) seen (mine ++ s.entries) s.others r) p.taken_more p.left_less (written_then f.sent f.appended)
      (settles_at plans now.answered p.middle u.left true [] (interim_of p.message ++ f.sent) WriteFault
      (no_exchange, (interim_of p.message ++ stop_text halt.Worn, in_last (record { early = interim_of p.message; is_early = asked_early; whole = refl }) refl, prefix_behind (interim_of p.message) f.sent (stop_text halt.Worn) f.missing f.some_missing f.parts)) (inr tt))
  serve_worn Closed f refused first world seen mine h = absurd f
  serve_worn (Refused s) f refused first world seen mine h = absurd f
  serve_worn CutShort f refused first world seen mine h = absurd f
  serve_worn ReadFault f refused first world seen mine h = absurd f
  serve_worn NoMemory f refused first world seen mine h = absurd f

-- ---- the reply that waits

pub replies_of : (o : Option Pending) (q : Pending) (r : Reply) (a b : SessionState) (x y : SinkTold) (e : Option SessionEnd) → o ≡ Some q
    → IfSome o (λ p. Replies p r a b x y e) → Replies q r a b x y e
replies_of o q r a b x y e same h = subst (λ (v : Option Pending). IfSome v (λ p. Replies p r a b x y e)) same h

-- ---- the desk's reply

-- the task and the reply of an entry are its own
pub record ReadsEntries (plans : TaskPlans) : Type 0 where
  pub task : (e : Entry) → plans.task_of e ≡ e.task
  pub reply : (e : Entry) → plans.reply_of e ≡ e.reply

module _ (laws : ReadStays) (plans : TaskPlans) (own : ReadsEntries plans) (old new later : Standing) (now next_state : SessionState) (t u : SourceTold) (w x y : SinkTold) (task : Task) (r : Reply)
    (p : Asking plans old new now t u w x task)
    (joined : (first : ℕ) (world : World) (seen mine : List Entry) → new first world seen mine → Joins (later first world) seen mine task r) where
  pub how : Pending
  how = record { head_only = is_head p.message; close = closes p.message (now.answered + 1) }

  answer_by : (by : ℕ) → IsAnswer plans (plans.plan p.message) r (record { by = by; task = task; reply = r } ∷ [])
  answer_by by =
      subst (λ (v : Planned Task). IsAnswer plans v r (record { by = by; task = task; reply = r } ∷ [])) (sym p.planned)
      (record { by = by; task = task; reply = r }, refl, own.task (record { by = by; task = task; reply = r }), sym (own.reply (record { by = by; task = task; reply = r })))

  -- the desk's lists with the new entry
  joined_now : (first : ℕ) (world : World) (seen mine others entries : List Entry) (j : Joins (later first world) (seen ++ others) (mine ++ entries) task r)
      → later first world (seen ++ (others ++ (j.others ++ record { by = j.by; task = task; reply = r } ∷ []))) (mine ++ (entries ++ record { by = j.by; task = task; reply = r } ∷ []))
  joined_now first world seen mine others entries j =
      subst (later first world (seen ++ (others ++ (j.others ++ record { by = j.by; task = task; reply = r } ∷ [])))) (append_assoc mine entries (record { by = j.by; task = task; reply = r } ∷ []))
      (subst (λ (k : List Entry). later first world k ((mine ++ entries) ++ record { by = j.by; task = task; reply = r } ∷ [])) (regroup seen others j.others (record { by = j.by; task = task; reply = r } ∷ [])) j.now)
    where
      regroup : (a b c d : List Entry) → (a ++ b) ++ c ++ d ≡ a ++ (b ++ (c ++ d))
      regroup a b c d = simp append_assoc

  written_on : (last : List ℕ) → Appends x.written y.written last → Appends w.written y.written (p.text ++ (interim_of p.message ++ last))
  written_on last h = subst (Appends w.written y.written) (append_assoc p.text (interim_of p.message) last) (appends_then w.written x.written y.written (p.text ++ interim_of p.message) last p.written_more h)

  -- the same number of answers under another name
  counted : (stands : List Entry → List Entry → Type 0) (first : ℕ) (seen mine : List Entry) (end : SessionEnd) (k : ℕ) → k ≡ next_state.answered
      → Serves plans stands first seen mine t u w y k end → Serves plans stands first seen mine t u w y next_state.answered end
  counted stands first seen mine end k e h = subst (λ (n : ℕ). Serves plans stands first seen mine t u w y n end) e h

  pub serve_replied : (end : SessionEnd) → Replies how r now next_state x y (Some end)
      → (first : ℕ) (world : World) (seen mine : List Entry) → old first world seen mine → Serves plans (later first world) first seen mine t u w y next_state.answered end
  unfolding how
  serve_replied Closed done first world seen mine h =
      let s = p.each first world seen mine h in
      let j = joined first world (seen ++ s.others) (mine ++ s.entries) s.now in
      counted (later first world) first seen mine Closed (now.answered + 1) (ap (λ (v : SessionState). v.answered) (sym done.2))
      (serves_with laws plans (later first world) first seen mine (s.others ++ (j.others ++ record { by = j.by; task = task; reply = r } ∷ [])) s.entries (record { by = j.by; task = task; reply = r } ∷ [])
      t u w y p.bytes p.text (sent_for p.message (now.answered + 1) r) now.answered (now.answered + 1) p.middle false Closed
      (joined_now first world seen mine s.others s.entries j) (never_worn _) p.taken_more p.left_less
      (written_on (reply_text r (is_head p.message) (closes p.message (now.answered + 1))) done.0) s.answers
      (settles_last plans now.answered p.middle u.left false (exchange_of now.answered p.message r (record { by = j.by; task = task; reply = r } ∷ [])) now.buffer p.reads refl (answer_by j.by) done.1))
  serve_replied WriteFault done first world seen mine h =
      let s = p.each first world seen mine h in
      let j = joined first world (seen ++ s.others) (mine ++ s.entries) s.now in
      counted (later first world) first seen mine WriteFault now.answered (ap (λ (v : SessionState). v.answered) (sym done.1))
      (serves_with laws plans (later first world) first seen mine (s.others ++ (j.others ++ record { by = j.by; task = task; reply = r } ∷ [])) s.entries (record { by = j.by; task = task; reply = r } ∷ [])
      t u w y p.bytes p.text (interim_of p.message ++ done.0.sent) now.answered now.answered p.middle false WriteFault
      (joined_now first world seen mine s.others s.entries j) (never_worn _) p.taken_more p.left_less
      (written_on done.0.sent done.0.appended) s.answers
      (settles_at plans now.answered p.middle u.left false (record { by = j.by; task = task; reply = r } ∷ []) (interim_of p.message ++ done.0.sent) WriteFault (
        no_exchange,
        (
          sent_for p.message (now.answered + 1) r,
          in_reply p.message now.buffer r p.reads (answer_by j.by) refl,
          prefix_behind (interim_of p.message) done.0.sent (reply_text r (is_head p.message) (closes p.message (now.answered + 1))) done.0.missing done.0.some_missing done.0.parts,
        ),
      ) (inr tt)))
  serve_replied (Refused s) done first world seen mine h = absurd done
  serve_replied CutShort done first world seen mine h = absurd done
  serve_replied ReadFault done first world seen mine h = absurd done
  serve_replied NoMemory done first world seen mine h = absurd done
  serve_replied Worn done first world seen mine h = absurd done

  pub serving_more : Replies how r now next_state x y None → Serving plans old later next_state t u w y
  unfolding how
  serving_more done = record {
    bytes = p.bytes;
    taken_more = p.taken_more;
    left_less = p.left_less;
    sent = p.text ++ sent_for p.message (now.answered + 1) r;
    written_more = written_on (reply_text r (is_head p.message) (closes p.message (now.answered + 1))) done.0;
    each = λ first world seen mine h. each_more first world seen mine (p.each first world seen mine h);
    few = omega (arith, ap (λ (v : SessionState). v.answered) done.2, few_more p.message (now.answered + 1) (omega (arith, p.few)) done.1);
  }
    where
      each_more : (first : ℕ) (world : World) (seen mine : List Entry) → Stood plans (new first world) seen mine p.bytes now.answered p.middle p.text
          → Stood plans (later first world) seen mine p.bytes next_state.answered next_state.buffer (p.text ++ sent_for p.message (now.answered + 1) r)
      each_more first world seen mine s =
          let j = joined first world (seen ++ s.others) (mine ++ s.entries) s.now in
          record {
            others = s.others ++ (j.others ++ record { by = j.by; task = task; reply = r } ∷ []);
            entries = s.entries ++ record { by = j.by; task = task; reply = r } ∷ [];
            now = joined_now first world seen mine s.others s.entries j;
            answers =
                subst (λ (v : SessionState). Answers plans 0 p.bytes v.answered v.buffer (s.entries ++ record { by = j.by; task = task; reply = r } ∷ []) (p.text ++ sent_for p.message (now.answered + 1) r)) (sym done.2)
                (answers_then plans 0 p.bytes now.answered p.middle (now.answered + 1) now.buffer s.entries (record { by = j.by; task = task; reply = r } ∷ []) p.text (sent_for p.message (now.answered + 1) r) s.answers
                (answers_one plans now.answered p.middle (exchange_of now.answered p.message r (record { by = j.by; task = task; reply = r } ∷ [])) now.buffer p.reads refl (answer_by j.by) done.1));
          }

  pub serve_sent : (end : SessionEnd) → IfSome now.pending (λ q. Replies q r now next_state x y (Some end))
      → (first : ℕ) (world : World) (seen mine : List Entry) → old first world seen mine → Serves plans (later first world) first seen mine t u w y next_state.answered end
  unfolding how
  serve_sent end sent = serve_replied end (replies_of now.pending how r now next_state x y (Some end) p.pending sent)

  pub serving_sent : IfSome now.pending (λ q. Replies q r now next_state x y None) → Serving plans old later next_state t u w y
  unfolding how
  serving_sent sent = serving_more (replies_of now.pending how r now next_state x y None p.pending sent)

-- a planner's plans read entries so
pub own_entries : (planned : Message → Plan) → ReadsEntries (plans_of planned)
own_entries planned = record { task = λ e. refl; reply = λ e. refl }

-- ---- the start

same_lists : (old : Standing) (first : ℕ) (world : World) (seen mine : List Entry) → old first world seen mine → old first world (seen ++ []) (mine ++ [])
same_lists old first world seen mine h =
    subst (λ (s : List Entry). old first world s (mine ++ [])) (sym (append-nil seen)) (subst (old first world seen) (sym (append-nil mine)) h)

pub serve_start : ReadStays → (plans : TaskPlans) (old : Standing) (t : SourceTold) (w x : SinkTold) (result : SessionEnd) → Finishes NoMemory w x result
    → (first : ℕ) (world : World) (seen mine : List Entry) → old first world seen mine → Serves plans (old first world) first seen mine t t w x 0 result
serve_start laws plans old t w x NoMemory f first world seen mine h =
    serves_of laws plans (old first world) first seen mine [] [] t t w x [] unavailable_text 0 false NoMemory (same_lists old first world seen mine h) (never_worn _)
    (appends_none t.taken) (consumes_none t.left) f (out_settles plans 0 [] t.left [] (inl refl))
serve_start laws plans old t w x WriteFault f first world seen mine h =
    serves_of laws plans (old first world) first seen mine [] [] t t w x [] f.sent 0 false WriteFault (same_lists old first world seen mine h) (never_worn _)
    (appends_none t.taken) (consumes_none t.left) f.appended (out_cut plans 0 [] t.left [] f.sent f.missing (inl refl) f.some_missing f.parts)
serve_start laws plans old t w x Closed f first world seen mine h = absurd f
serve_start laws plans old t w x (Refused s) f first world seen mine h = absurd f
serve_start laws plans old t w x CutShort f first world seen mine h = absurd f
serve_start laws plans old t w x ReadFault f first world seen mine h = absurd f
serve_start laws plans old t w x Worn f first world seen mine h = absurd f

-- ---- the number of answers under another name

pub counted_as : (plans : TaskPlans) (old later : Standing) (t u : SourceTold) (w x : SinkTold) (k n : ℕ) (end : SessionEnd) → n ≡ k
    → ((first : ℕ) (world : World) (seen mine : List Entry) → old first world seen mine → Serves plans (later first world) first seen mine t u w x k end)
    → (first : ℕ) (world : World) (seen mine : List Entry) → old first world seen mine → Serves plans (later first world) first seen mine t u w x n end
counted_as plans old later t u w x k n end e h first world seen mine stood =
    subst (λ (a : ℕ). Serves plans (later first world) first seen mine t u w x a end) (sym e) (h first world seen mine stood)

-- ---- the measure

pub runs_up : (plans : TaskPlans) (i : ℕ) (a : List ℕ) (xs : List (Exchange Entry)) (j : ℕ) (b : List ℕ) → Runs plans i a xs j b → i ≤ j
runs_up plans i a [] j b h = omega (arith, h.0)
runs_up plans i a (x ∷ xs) j b h = omega (arith, h.2, runs_up plans x.number h.0 xs j b h.4)

pub falls : (plans : TaskPlans) (mid now after : SessionState) (u v : SourceTold) (x y : SinkTold) (task : Task) (q : Pending) (r : Reply) (z : SinkTold)
    → NextSees plans mid now u v x y (next.Task task) → Replies q r now after y z None → mid.answered < MESSAGE_LIMIT → MESSAGE_LIMIT - after.answered < MESSAGE_LIMIT - mid.answered
falls plans mid now after u v x y task q r z h done few =
    omega (
      arith,
      ap (λ (s : SessionState). s.answered) done.2,
      few,
      runs_up plans mid.answered (mid.buffer ++ h.bytes) h.verdict.before.exchanges now.answered h.verdict.middle h.verdict.before.runs,
    )

abbrev pub RefusedAll : Standing → Standing → DeskEnd → Type 0
RefusedAll new later e = (first : ℕ) (world : World) (seen mine : List Entry) → new first world seen mine → Refuses (later first world) first seen mine e

pub refused_as : (new later : Standing) (e f : DeskEnd) → e ≡ f → RefusedAll new later e → RefusedAll new later f
refused_as new later e f same h = subst (RefusedAll new later) same h
