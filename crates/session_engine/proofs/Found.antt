-- The exits of the call that takes one message.
use Rattle.std.proofs.Common.{◌≡◌, ℕ, ◌<◌, Bool, true, false, List, [], ◌++◌, length, refl, sym, ap, subst, ◌∙◌, append_assoc, ◌⊎◌, inl, inr, Ok, Err}
use Rattle.std.specs.Prelude.{if◌then◌else◌}
use Rattle.std.specs.declared.option.Option.{Option}
use Rattle.std.specs.Io.KnownBytes.{Appends}
use Rattle.outer_ends.specs.Told.{SourceTold, SinkTold}
use Rattle.outer_ends.specs.Streams.{AppendsFront}
use Rattle.outer_ends.specs.StreamLaws.{appends_none, appends_then, consumes_then}
use Rattle.http_messages.specs.declared.messages.Message.{Message}
use Rattle.http_messages.specs.declared.framings.Framing.{Framing}
use Rattle.http_messages.specs.declared.framings.HeadFault.{HeadFault}
use Rattle.http_messages.specs.declared.framings.RefusedRest.TheVariants.{Hopeless, TooLarge, TooMany, Head, BadChunk, LargeBody}
use Rattle.http_messages.specs.ReplyText.{interim_text}
use Rattle.http_model.specs.Heads.{IsOpen}
use Rattle.http_messages.specs.declared.limits.TheConstants.{HEAD_LIMIT}
use Rattle.http_model.specs.Blanks.{empty_lines}
use Rattle.http_model.specs.Framings.{framing_of, expects_continue, interim_of, is_head}
use Rattle.http_model.specs.Bodies.{ReadsBody}
use Rattle.http_model.specs.Rests.{Accepts, IsBetweenMessages, IsCut}
use Rattle.http_model.specs.Laws.{HeadsDecided, ReadStays}
use Rattle.http_framing.specs.Taken.{VerdictOn, TakesHead}
use Rattle.http_framing.specs.declared.heads.HeadEnd.TheVariants as head
use Rattle.session_engine.specs.declared.messages.Taken.{Taken}
use Rattle.session_engine.specs.declared.messages.Taken.TheVariants as found
use Rattle.session_engine.specs.Seen.{MessageOn, TakesMessage, RestOn, TakesRest}
use Rattle.session_engine.proofs.Growth.{accepts_more}
use Rattle.session_engine.proofs.Heads.{interim_same}

-- ---- a head and then its body

pub message_of_rest : (seen after : List ℕ) (m : Message) (framing : Framing) (left : Option (List ℕ)) (now sent : List ℕ) (end : Taken)
    → Accepts seen m framing after → RestOn m framing after left now end → sent ≡ interim_of m → MessageOn seen left now sent end
message_of_rest seen after m framing left now sent (found.Whole n) a v e = (
  record {
    bare = m;
    middle = after;
    head = a.head;
    framed = framing;
    framing = a.framed;
    content = subst (λ (k : Message). ReadsBody framing after k.body now) (sym v.2) v.1;
    same = v.2 ∙ sym (ap (λ (k : Message). record m { body = k.body }) v.2);
  },
  e ∙ sym (interim_same m v.0) ∙ ap interim_of (sym v.2),
)
message_of_rest seen after m framing left now sent found.End a v e = absurd v
message_of_rest seen after m framing left now sent found.CutShort a v e = (inr (m, after, framing, a, v.0, e), v.1)
message_of_rest seen after m framing left now sent (found.Refused BadChunk h) a v e =
    (m, after, subst (λ (f : Framing). Accepts seen m f after) v.0 a, v.1, e, v.2)
message_of_rest seen after m framing left now sent (found.Refused LargeBody h) a v e =
    (m, after, subst (λ (f : Framing). Accepts seen m f after) v.0 a, v.1, e, v.2)
message_of_rest seen after m framing left now sent (found.Refused Hopeless h) a v e = absurd v
message_of_rest seen after m framing left now sent (found.Refused TooLarge h) a v e = absurd v
message_of_rest seen after m framing left now sent (found.Refused TooMany h) a v e = absurd v
message_of_rest seen after m framing left now sent (found.Refused (Head r) h) a v e = absurd v
message_of_rest seen after m framing left now sent found.ReadFault a v e = inr (inr (m, after, framing, a, v, e))
message_of_rest seen after m framing left now sent found.WriteFault a v e = absurd v
message_of_rest seen after m framing left now sent found.NoMemory a v e = inr (m, after, framing, a, e)

-- ---- the exits

accepted : (seen : List ℕ) (left : Option (List ℕ)) (now : List ℕ) (m : Message) (framing : Framing) → VerdictOn seen left now (head.Head m) → framing_of m ≡ Ok framing
    → Accepts seen m framing now
accepted seen left now m framing v e =
    record { head = v; framed = e }

abbrev pub asked : Bool → List ℕ
asked asks = if asks then interim_text else []

pub found_write_fault : (old now : List ℕ) (t u : SourceTold) (w x : SinkTold) (message : Message) (framing : Framing) (asks : Bool)
    → TakesHead old now t u (head.Head message) → framing_of message ≡ Ok framing → asks ≡ expects_continue message → AppendsFront w.written x.written (asked asks)
    → TakesMessage old now t u w x found.WriteFault
found_write_fault old now t u w x message framing asks h e a f = record {
  bytes = h.bytes;
  taken_more = h.taken_more;
  left_less = h.left_less;
  sent = f.sent;
  written_more = f.appended;
  verdict = (
    interim_of message,
    inr (message, now, framing, accepted (old ++ h.bytes) u.left now message framing h.verdict e, refl),
    record { missing = f.missing; some_missing = f.some_missing; parts = ap asked (sym a) ∙ f.parts },
  );
}

pub found_rule : (old now : List ℕ) (t u : SourceTold) (w : SinkTold) (message : Message) (fault : HeadFault) (head_only : Bool)
    → TakesHead old now t u (head.Head message) → framing_of message ≡ Err fault → head_only ≡ is_head message
    → TakesMessage old now t u w w (found.Refused (Head fault) head_only)
found_rule old now t u w message fault head_only h e f = record {
  bytes = h.bytes;
  taken_more = h.taken_more;
  left_less = h.left_less;
  sent = [];
  written_more = appends_none w.written;
  verdict = (message, now, h.verdict, e, refl, f);
}

pub found_rest : ReadStays → (old mid now : List ℕ) (t u v : SourceTold) (w x : SinkTold) (message : Message) (framing : Framing) (asks : Bool) (end : Taken)
    → TakesHead old mid t u (head.Head message) → framing_of message ≡ Ok framing → asks ≡ expects_continue message → Appends w.written x.written (asked asks)
    → TakesRest message framing mid now u v end → TakesMessage old now t v w x end
found_rest laws old mid now t u v w x message framing asks end h e a p r = record {
  bytes = h.bytes ++ r.bytes;
  taken_more = appends_then t.taken u.taken v.taken h.bytes r.bytes h.taken_more r.taken_more;
  left_less = consumes_then t.left u.left v.left h.bytes r.bytes h.left_less r.left_less;
  sent = asked asks;
  written_more = p;
  verdict = subst (λ (s : List ℕ). MessageOn s v.left now (asked asks) end) (append_assoc old h.bytes r.bytes) (
      message_of_rest ((old ++ h.bytes) ++ r.bytes) (mid ++ r.bytes) message framing v.left now (asked asks) end
      (accepts_more laws (old ++ h.bytes) r.bytes message framing mid (accepted (old ++ h.bytes) u.left mid message framing h.verdict e))
      r.verdict
      (ap asked a)
      );
}

pub found_cut : (old now : List ℕ) (t u : SourceTold) (w : SinkTold) → TakesHead old now t u head.CutShort → TakesMessage old now t u w w found.CutShort
found_cut old now t u w h = record {
  bytes = h.bytes;
  taken_more = h.taken_more;
  left_less = h.left_less;
  sent = [];
  written_more = appends_none w.written;
  verdict = (inl (h.verdict.2, h.verdict.3, h.verdict.4, refl), h.verdict.1);
}

open_rest : HeadsDecided → (seen sent : List ℕ) (b : Bool) → empty_lines false seen ≡ b → length seen < HEAD_LIMIT → IsOpen seen → sent ≡ [] → (IsBetweenMessages seen × (sent ≡ [])) ⊎ IsCut seen sent
open_rest heads seen sent true e short is_open none = inl ((short, heads.blank seen e), none)
open_rest heads seen sent false e short is_open none = inr (inl (short, is_open, heads.not_blank seen e, none))

pub found_fault : HeadsDecided → (old now : List ℕ) (t u : SourceTold) (w : SinkTold) → TakesHead old now t u head.ReadFault → TakesMessage old now t u w w found.ReadFault
found_fault heads old now t u w h = record {
  bytes = h.bytes;
  taken_more = h.taken_more;
  left_less = h.left_less;
  sent = [];
  written_more = appends_none w.written;
  verdict = open_rest heads (old ++ h.bytes) [] (empty_lines false (old ++ h.bytes)) refl h.verdict.1 h.verdict.2 refl;
}
