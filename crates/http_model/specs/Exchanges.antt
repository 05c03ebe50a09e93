-- The messages of a connection with what answers them, for any plan and any store (of this project).
use Rattle.std.specs.Prelude.{◌≡◌, ◌⊎◌, ℕ, ◌+◌, Bool, List, [], ◌∷◌, ◌++◌, IsTrue, IsFalse, All}
use Rattle.std.specs.List.{flat_map}
use Rattle.http_messages.specs.declared.messages.Message.{Message}
use Rattle.http_messages.specs.declared.messages.Reply.{Reply}
use Rattle.http_messages.specs.ReplyText.{reply_text}
use Rattle.http_model.specs.Framings.{closes, interim_of, is_head}
use Rattle.http_model.specs.Requests.{ReadsMessage, HasNoMessage}

-- what a plan says of a message: its reply, or the task that it is
pub data Planned (T : Type 0) : Type 0 where
  planned_reply : Reply → Planned T
  planned_task : T → Planned T

-- a plan for messages, and the task and the reply of an entry of the store's history
pub record Plans (T E : Type 0) : Type 0 where
  pub plan : Message → Planned T
  pub task_of : E → T
  pub reply_of : E → Reply

-- a message, its number on the connection, its reply, and the entries that it made
pub record Exchange (E : Type 0) : Type 0 where
  pub number : ℕ
  pub message : Message
  pub reply : Reply
  pub entries : List E

-- the reply is the fixed one, or that of the one entry, whose task is the message's
abbrev pub IsAnswer : {T E : Type 0} → Plans T E → Planned T → Reply → List E → Type 0
IsAnswer plans (planned_reply r) reply entries = (reply ≡ r) × (entries ≡ [])
IsAnswer {T} {E} plans (planned_task t) reply entries = (e : E) × (entries ≡ e ∷ []) × (plans.task_of e ≡ t) × (reply ≡ plans.reply_of e)

-- i messages having come before, the bytes are the messages of these exchanges, each with its answer, j messages by then, and then rest
abbrev pub Runs : {T E : Type 0} → Plans T E → ℕ → List ℕ → List (Exchange E) → ℕ → List ℕ → Type 0
Runs plans i bytes [] j rest = (j ≡ i) × (bytes ≡ rest)
Runs plans i bytes (x ∷ xs) j rest =
    (middle : List ℕ) × ReadsMessage bytes x.message middle × (x.number ≡ i + 1) × IsAnswer plans (plans.plan x.message) x.reply x.entries
    × Runs plans x.number middle xs j rest

-- its reply closes the connection
abbrev pub closes_by : {E : Type 0} → Exchange E → Bool
closes_by x = closes x.message x.number

-- none of them closes the connection
abbrev pub StaysOpen : {E : Type 0} → List (Exchange E) → Type 0
StaysOpen xs = All (λ x. IsFalse (closes_by x)) xs

-- the last of them closes the connection, and no other
pub record LastCloses {E : Type 0} (xs : List (Exchange E)) : Type 0 where
  pub front : List (Exchange E)
  pub last : Exchange E
  pub whole : xs ≡ front ++ last ∷ []
  pub open_front : StaysOpen front
  pub closing : IsTrue (closes_by last)

-- no further message is answered: the last one closes, or none does and no message follows
abbrev pub AreAllAnswered : {E : Type 0} → List (Exchange E) → List ℕ → Type 0
AreAllAnswered xs rest = (StaysOpen xs × HasNoMessage rest) ⊎ LastCloses xs

-- what is sent for a message: its interim text, and its reply, without a body for HEAD
abbrev pub sent_for : Message → ℕ → Reply → List ℕ
sent_for m number reply = interim_of m ++ reply_text reply (is_head m) (closes m number)

-- what is sent for it
abbrev pub sent_by : {E : Type 0} → Exchange E → List ℕ
sent_by x = sent_for x.message x.number x.reply

-- what is sent for all of them
abbrev pub text_of : {E : Type 0} → List (Exchange E) → List ℕ
text_of xs = flat_map sent_by xs

-- the entries that all of them made
abbrev pub entries_of : {E : Type 0} → List (Exchange E) → List E
entries_of xs = flat_map (λ x. x.entries) xs
