-- A session that is driven by hand between ends in memory: the states of its connection between its calls, by all bytes of its
-- input and by the entries that are its own.
use Rattle.std.specs.Prelude.{⊤, ◌≡◌, ◌≢◌, ℕ, ◌+◌, ◌<◌, ◌≤◌, false, List, [], ◌∷◌, ◌++◌, Some, None, Option, IfSome, IsSome}
use Rattle.outer_ends.specs.Memory.{SourceState, SinkState, source_told, sink_told}
use Rattle.http_messages.specs.declared.messages.Message.{Message}
use Rattle.http_messages.specs.declared.messages.Reply.{Reply}
use Rattle.http_messages.specs.declared.ends.SessionEnd.{SessionEnd}
use Rattle.http_messages.specs.declared.ends.SessionEnd.TheVariants.{Closed, NoMemory}
use Rattle.http_messages.specs.declared.limits.TheConstants.{MESSAGE_LIMIT}
use Rattle.http_messages.specs.ReplyText.{unavailable_text}
use Rattle.http_model.specs.Framings.{closes, interim_of, is_head}
use Rattle.http_model.specs.Requests.{ReadsMessage}
use Rattle.http_model.specs.Exchanges.{planned_task}
use Rattle.http_model.specs.Served.{Served}
use Rattle.http_model.specs.Tasks.{IsMemoryEnd}
use Rattle.task_forms.specs.declared.tasks.Task.{Task}
use Rattle.task_forms.specs.declared.tasks.Entry.{Entry}
use Rattle.session_engine.specs.declared.sessions.Next.{Next}
use Rattle.session_engine.specs.declared.sessions.Next.TheVariants as next
use Rattle.session_engine.specs.Plans.{TaskPlans}
use Rattle.session_engine.specs.States.{SessionState}
use Rattle.session_engine.specs.Seen.{Answers, NextSees, Replies}

-- a session and the two ends of its connection
pub record Connection : Type 0 where
  pub source : SourceState
  pub sink : SinkState
  pub session : SessionState

-- ---- the states

-- between two messages: those that were read are answered
pub record IsBetweenTwo (plans : TaskPlans) (bytes : List ℕ) (entries : List Entry) (c : Connection) : Type 0 where
  pub whole : bytes ≡ c.source.taken ++ c.source.left
  pub answers : Answers plans 0 c.source.taken c.session.answered c.session.buffer entries c.sink.written
  pub few : c.session.answered < MESSAGE_LIMIT

-- behind those that are answered comes a message that is this task, and its interim text was sent
pub record IsAtTask (plans : TaskPlans) (bytes : List ℕ) (entries : List Entry) (t : Task) (c : Connection) : Type 0 where
  pub whole : bytes ≡ c.source.taken ++ c.source.left
  pub middle : List ℕ
  pub text : List ℕ
  pub answers : Answers plans 0 c.source.taken c.session.answered middle entries text
  pub message : Message
  pub reads : ReadsMessage middle message c.session.buffer
  pub planned : plans.plan message ≡ planned_task t
  pub pending : c.session.pending ≡ Some (record { head_only = is_head message; close = closes message (c.session.answered + 1) })
  pub written : c.sink.written ≡ text ++ interim_of message
  pub few : c.session.answered < MESSAGE_LIMIT

-- it has ended so
pub record IsOver (plans : TaskPlans) (bytes : List ℕ) (entries : List Entry) (end : SessionEnd) (c : Connection) : Type 0 where
  pub answered : ℕ
  pub served : Served plans 0 bytes c.source.taken false answered entries c.sink.written end
  pub in_memory : IsMemoryEnd end

-- ---- the calls between them

-- a call of `next`
abbrev pub CallsNext : TaskPlans → Connection → Connection → Next → Type 0
CallsNext plans old new result =
    NextSees plans old.session new.session (source_told old.source) (source_told new.source) (sink_told old.sink) (sink_told new.sink) result

-- a call of `send` with that reply
abbrev pub CallsSend : Reply → Connection → Connection → Option SessionEnd → Type 0
CallsSend r old new end = IfSome old.session.pending (λ p. Replies p r old.session new.session (sink_told old.sink) (sink_told new.sink) end)

-- the text for want of memory was written
abbrev pub SaysOut : Connection → Connection → Type 0
SaysOut old new = new.sink.written ≡ old.sink.written ++ unavailable_text

-- ---- laws on them

-- the entry is of that task and that reply
pub record IsEntryOf (plans : TaskPlans) (t : Task) (r : Reply) (e : Entry) : Type 0 where
  pub task : plans.task_of e ≡ t
  pub reply : plans.reply_of e ≡ r

-- what a call of `next` that came to a task leaves to be sent
pub record HasPending (old new : Connection) : Type 0 where
  pub answered : old.session.answered ≤ new.session.answered
  pub pending : IsSome new.session.pending
  pub few : new.session.answered < MESSAGE_LIMIT

-- what composes a session step by step
pub record SessionsGoOn : Type 0 where
  -- before the first call
  pub begins : (plans : TaskPlans) (bytes : List ℕ) (c : Connection) → c.source.taken ≡ [] → c.source.left ≡ bytes → c.sink.written ≡ []
      → c.session ≡ record { answered = 0; buffer = []; pending = None } → IsBetweenTwo plans bytes [] c
  -- a call of `next` comes to a task
  pub asks : (plans : TaskPlans) (bytes : List ℕ) (entries : List Entry) (old new : Connection) (t : Task)
      → IsBetweenTwo plans bytes entries old → CallsNext plans old new (next.Task t) → IsAtTask plans bytes entries t new
  pub waits : (plans : TaskPlans) (old new : Connection) (t : Task) → CallsNext plans old new (next.Task t) → HasPending old new
  -- a call of `next` ends the session, with all of its texts
  pub ends : (plans : TaskPlans) (bytes : List ℕ) (entries : List Entry) (old new : Connection) (end : SessionEnd) → IsMemoryEnd end → end ≢ NoMemory
      → IsBetweenTwo plans bytes entries old → CallsNext plans old new (next.Ended end) → IsOver plans bytes entries end new
  -- it ends for want of memory, and then the text that says so is written
  pub runs_out : (plans : TaskPlans) (bytes : List ℕ) (entries : List Entry) (old mid new : Connection)
      → IsBetweenTwo plans bytes entries old → CallsNext plans old mid (next.Ended NoMemory) → new.source ≡ mid.source → new.session ≡ mid.session → SaysOut mid new
      → IsOver plans bytes entries NoMemory new
  -- the reply of the task's entry is sent, and the next message is awaited
  pub answered : (plans : TaskPlans) (bytes : List ℕ) (entries : List Entry) (t : Task) (old new : Connection) (e : Entry) (r : Reply)
      → IsAtTask plans bytes entries t old → IsEntryOf plans t r e → new.source ≡ old.source → CallsSend r old new None
      → IsBetweenTwo plans bytes (entries ++ e ∷ []) new
  -- the reply of the task's entry is sent, and closes the connection
  pub closed : (plans : TaskPlans) (bytes : List ℕ) (entries : List Entry) (t : Task) (old new : Connection) (e : Entry) (r : Reply)
      → IsAtTask plans bytes entries t old → IsEntryOf plans t r e → new.source ≡ old.source → CallsSend r old new (Some Closed)
      → IsOver plans bytes (entries ++ e ∷ []) Closed new
  -- in place of the reply the text for want of memory is written
  pub task_runs_out : (plans : TaskPlans) (bytes : List ℕ) (entries : List Entry) (t : Task) (old new : Connection)
      → IsAtTask plans bytes entries t old → new.source ≡ old.source → SaysOut old new → IsOver plans bytes entries NoMemory new
