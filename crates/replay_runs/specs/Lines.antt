-- A connection between ends in memory, as the laws of sessions see it.
use Rattle.std.specs.Prelude.{⊤, ◌≡◌, ℕ, List, [], ◌∷◌, ◌++◌, Some, None, Option}
use Rattle.http_messages.specs.declared.ends.SessionEnd.{SessionEnd}
use Rattle.http_messages.specs.declared.ends.SessionEnd.TheVariants.{NoMemory}
use Rattle.http_messages.specs.declared.messages.Reply.{Reply}
use Rattle.task_forms.specs.declared.tasks.Task.{Task}
use Rattle.task_forms.specs.declared.tasks.Entry.{Entry}
use Rattle.session_engine.specs.declared.sessions.Next.{Next}
use Rattle.session_engine.specs.declared.sessions.Next.TheVariants as next
use Rattle.session_engine.specs.Driving.{Connection, IsBetweenTwo, IsAtTask, IsOver, IsEntryOf}
use Rattle.session_engine.specs.Plans.{TaskPlans}
use Rattle.replay_runs.specs.declared.lines.Line.{Line}

abbrev pub connection : Line → Connection
connection l = record { source = l.source; sink = l.sink; session = l.session }

-- between two messages, and no reply waits
pub record Rests (plans : TaskPlans) (bytes : List ℕ) (entries : List Entry) (l : Line) : Type 0 where
  pub between : IsBetweenTwo plans bytes entries (connection l)
  pub free : l.session.pending ≡ None

-- it has come to a task, or has ended so
abbrev pub ReadsOn : TaskPlans → List ℕ → List Entry → Line → Next → Type 0
ReadsOn plans bytes entries l (next.Task t) = IsAtTask plans bytes entries t (connection l)
ReadsOn plans bytes entries l (next.Ended e) = IsOver plans bytes entries e (connection l)

-- behind an answer it rests, or has ended so
abbrev pub Answered : TaskPlans → List ℕ → List Entry → Line → Option SessionEnd → Type 0
Answered plans bytes entries l None = Rests plans bytes entries l
Answered plans bytes entries l (Some e) = IsOver plans bytes entries e (connection l)

-- where it came to a task
abbrev pub OnTask : Next → Type 0 → Type 0
OnTask (next.Task t) p = p
OnTask (next.Ended e) p = ⊤

-- ---- the calls, whatever was sent before

-- a read leads from resting to a task or an end
abbrev pub ReadsFrom : TaskPlans → Line → Line → Next → Type 0
ReadsFrom plans old new r = (bytes : List ℕ) (entries : List Entry) → Rests plans bytes entries old → ReadsOn plans bytes entries new r

-- an answer with that reply leads from a task, by its entry, to resting or an end
abbrev pub Answers : Reply → Line → Line → Option SessionEnd → Type 0
Answers reply old new r =
    (plans : TaskPlans) (bytes : List ℕ) (entries : List Entry) (t : Task) (e : Entry)
    → IsAtTask plans bytes entries t (connection old) → IsEntryOf plans t reply e → Answered plans bytes (entries ++ e ∷ []) new r

-- the text for want of memory leads from a task to that end
abbrev pub GivesUp : Line → Line → Type 0
GivesUp old new =
    (plans : TaskPlans) (bytes : List ℕ) (entries : List Entry) (t : Task)
    → IsAtTask plans bytes entries t (connection old) → IsOver plans bytes entries NoMemory (connection new)
