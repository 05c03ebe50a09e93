-- The messages of a stream of bytes (RFC 9112, sections 2, 6 and 9.3).
use Rattle.std.specs.Prelude.{◌≡◌, ◌⊎◌, ℕ, ◌+◌, ◌≤◌, List, [], ◌∷◌, length, Ok, IsTrue, IsFalse}
use Rattle.httparse.specs.Grammar.{RequestHead}
use Rattle.http_messages.specs.declared.messages.Message.{Message}
use Rattle.http_model.specs.Heads.{ReadsHead}
use Rattle.http_model.specs.Messages.{IsMessageHead, FitsHeadLimit}
use Rattle.http_messages.specs.declared.framings.Framing.{Framing}
use Rattle.http_model.specs.Framings.{framing_of, closes}
use Rattle.http_model.specs.Bodies.{ReadsBody}
use Rattle.http_messages.specs.declared.limits.TheConstants.{FIELD_LIMIT}

-- bytes are a head within the limits, with the parts of m, and then rest (RFC 9112, section 2.1)
pub record ReadsWholeHead (bytes : List ℕ) (m : Message) (rest : List ℕ) : Type 0 where
  pub head : RequestHead
  pub reads : ReadsHead bytes head rest
  pub fits : FitsHeadLimit head
  pub fields : length head.fields ≤ FIELD_LIMIT
  pub message : IsMessageHead m head

-- bytes are the message m, and then rest (RFC 9112, sections 2.1 and 6)
pub record ReadsMessage (bytes : List ℕ) (m : Message) (rest : List ℕ) : Type 0 where
  pub bare : Message
  pub middle : List ℕ
  pub head : ReadsWholeHead bytes bare middle
  pub framed : Framing
  pub framing : framing_of bare ≡ Ok framed
  pub content : ReadsBody framed middle m.body rest
  pub same : m ≡ record bare { body = m.body }

-- bytes are these messages, of which none but the last closes, and then rest; i messages came before (RFC 9112, sections 9.3.2 and 9.6)
abbrev pub ReadsMessages : ℕ → List ℕ → List Message → List ℕ → Type 0
ReadsMessages i bytes [] rest = bytes ≡ rest
ReadsMessages i bytes (m ∷ ms) rest =
    (middle : List ℕ) × ReadsMessage bytes m middle × ((ms ≡ []) ⊎ IsFalse (closes m (i + 1))) × ReadsMessages (i + 1) middle ms rest

-- the last of the messages closes, i messages having come before them
abbrev pub LastMessageCloses : ℕ → List Message → Type 0
LastMessageCloses i [] = ⊥
LastMessageCloses i (m ∷ ms) = ((ms ≡ []) × IsTrue (closes m (i + 1))) ⊎ LastMessageCloses (i + 1) ms

-- no message begins the bytes
abbrev pub HasNoMessage : List ℕ → Type 0
HasNoMessage bytes = (m : Message) (rest : List ℕ) → ¬ (ReadsMessage bytes m rest)

-- the longest list of messages that stand one after another, of which none but the last closes, and what follows them
pub record AreRequests (i : ℕ) (bytes : List ℕ) (ms : List Message) (rest : List ℕ) : Type 0 where
  pub reads : ReadsMessages i bytes ms rest
  pub longest : LastMessageCloses i ms ⊎ HasNoMessage rest
