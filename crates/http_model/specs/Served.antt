-- What a session sends for what it reads: the answers to the messages of its input in order, and then an end (of this project).
use Rattle.std.specs.Prelude.{◌≡◌, ◌⊎◌, ℕ, ◌+◌, ◌<◌, Bool, true, List, [], ◌++◌, length, IsTrue, if◌then◌else◌}
use Rattle.http_messages.specs.declared.messages.Message.{Message}
use Rattle.http_messages.specs.declared.messages.Reply.{Reply}
use Rattle.http_messages.specs.declared.messages.Stop.TheVariants as stop
use Rattle.http_messages.specs.declared.framings.RefusedRest.{RefusedRest}
use Rattle.http_messages.specs.declared.ends.SessionEnd.{SessionEnd}
use Rattle.http_messages.specs.declared.ends.SessionEnd.TheVariants.{Closed, Refused, CutShort, ReadFault, WriteFault, NoMemory, Worn}
use Rattle.http_messages.specs.ReplyText.{reply_text, unavailable_text, stop_text}
use Rattle.http_model.specs.Framings.{interim_of}
use Rattle.http_model.specs.Requests.{ReadsMessage}
use Rattle.http_model.specs.Rests.{IsBetweenMessages, IsRefused, IsCut, IsEarly}
use Rattle.http_model.specs.Refusals.{refusal_of}
use Rattle.http_model.specs.Exchanges.{Plans, planned_task, Exchange, IsAnswer, Runs, StaysOpen, LastCloses, sent_for, text_of, entries_of}

-- ---- last texts

-- what is sent for a rest that is refused with that status
pub record RefusalText (rest : List ℕ) (status : ℕ) (text : List ℕ) : Type 0 where
  pub why : RefusedRest
  pub early : List ℕ
  pub head_only : Bool
  pub refused : IsRefused rest why early head_only
  pub status_of : status ≡ (refusal_of why).status
  pub whole : text ≡ early ++ reply_text (refusal_of why) head_only true

-- the text that ends a session by itself: where the store took no further entry, and else for want of memory
abbrev pub last_text : Bool → List ℕ
last_text worn = if worn then stop_text stop.Worn else unavailable_text

-- that text, behind the next interim text or nothing
pub record EndsEarly (rest : List ℕ) (last text : List ℕ) : Type 0 where
  pub early : List ℕ
  pub is_early : IsEarly rest early
  pub whole : text ≡ early ++ last

-- the next message is a task, and the text that ends the session stands behind its interim text
pub record EndsTask {T E : Type 0} (plans : Plans T E) (rest : List ℕ) (last text : List ℕ) : Type 0 where
  pub message : Message
  pub after : List ℕ
  pub reads : ReadsMessage rest message after
  pub task : T
  pub planned : plans.plan message ≡ planned_task task
  pub whole : text ≡ interim_of message ++ last

-- text begins so, and goes on
pub record IsProperPrefix (sent text : List ℕ) : Type 0 where
  pub missing : List ℕ
  pub some_missing : 0 < length missing
  pub parts : text ≡ sent ++ missing

-- a text that a failing sink can cut, with the entries that were made for it
pub data CanBeCut {T E : Type 0} (plans : Plans T E) (worn : Bool) (answered : ℕ) (rest : List ℕ) (more : List E) (text : List ℕ) : Type 0 where
  -- what is sent for the next message
  in_reply : (m : Message) (after : List ℕ) (r : Reply) → ReadsMessage rest m after → IsAnswer plans (plans.plan m) r more
      → text ≡ sent_for m (answered + 1) r → CanBeCut plans worn answered rest more text
  -- what is sent for a rest that is refused
  in_refusal : (status : ℕ) → RefusalText rest status text → more ≡ [] → CanBeCut plans worn answered rest more text
  -- what ends a session by itself
  in_last : EndsEarly rest (last_text worn) text → more ≡ [] → CanBeCut plans worn answered rest more text

-- ---- ends

-- the end of a session behind these exchanges: what the bytes behind them are, the further entries, and what is sent last
abbrev pub EndIs : {T E : Type 0} → Plans T E → Bool → List (Exchange E) → ℕ → List ℕ → List E → List ℕ → SessionEnd → Type 0
EndIs plans worn xs answered rest more tail Closed = ((StaysOpen xs × IsBetweenMessages rest) ⊎ LastCloses xs) × (more ≡ []) × (tail ≡ [])
EndIs plans worn xs answered rest more tail (Refused s) = StaysOpen xs × RefusalText rest s tail × (more ≡ [])
EndIs plans worn xs answered rest more tail CutShort = StaysOpen xs × IsCut rest tail × (more ≡ [])
EndIs plans worn xs answered rest more tail ReadFault = StaysOpen xs × ((IsBetweenMessages rest × (tail ≡ [])) ⊎ IsCut rest tail) × (more ≡ [])
EndIs plans worn xs answered rest more tail WriteFault =
    StaysOpen xs × ((text : List ℕ) × CanBeCut plans worn answered rest more text × IsProperPrefix tail text)
EndIs plans worn xs answered rest more tail NoMemory = StaysOpen xs × EndsEarly rest unavailable_text tail × (more ≡ [])
EndIs plans worn xs answered rest more tail Worn = StaysOpen xs × EndsTask plans rest (stop_text stop.Worn) tail × (more ≡ []) × IsTrue worn

-- the bytes that the exchanges are read from: those that were taken, where the source failed
abbrev pub read_at : SessionEnd → List ℕ → List ℕ → List ℕ
read_at ReadFault bytes taken = taken
read_at end bytes taken = bytes

-- i messages having been answered before, the session over bytes, of which the first were taken, answered so many messages by
-- then, made these entries, sent out and ended so; worn says whether the store took no further entry
pub record Served {T E : Type 0} (plans : Plans T E) (i : ℕ) (bytes taken : List ℕ) (worn : Bool) (answered : ℕ) (entries : List E) (out : List ℕ) (end : SessionEnd)
    : Type 0 where
  pub untaken : List ℕ
  pub front : bytes ≡ taken ++ untaken
  pub exchanges : List (Exchange E)
  pub rest : List ℕ
  pub more : List E
  pub tail : List ℕ
  pub runs : Runs plans i (read_at end bytes taken) exchanges answered rest
  pub joined : entries ≡ entries_of exchanges ++ more
  pub sent : out ≡ text_of exchanges ++ tail
  pub ends : EndIs plans worn exchanges answered rest more tail end

-- i messages having been answered before, memory ran out behind these exchanges of the bytes, and the text that says so was
-- not sent yet
pub record RunsOut {T E : Type 0} (plans : Plans T E) (i : ℕ) (bytes : List ℕ) (answered : ℕ) (entries : List E) (out : List ℕ) : Type 0 where
  pub exchanges : List (Exchange E)
  pub rest : List ℕ
  pub early : List ℕ
  pub runs : Runs plans i bytes exchanges answered rest
  pub stays : StaysOpen exchanges
  pub is_early : IsEarly rest early
  pub joined : entries ≡ entries_of exchanges
  pub sent : out ≡ text_of exchanges ++ early

-- the ends that the input alone decides
pub data InputEnd : Type 0 where
  by_closing by_cut : InputEnd
  by_refusal : ℕ → InputEnd

-- the same as an end
abbrev pub end_of : InputEnd → SessionEnd
end_of by_closing = Closed
end_of by_cut = CutShort
end_of (by_refusal status) = Refused status
