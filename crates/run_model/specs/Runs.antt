-- Runs of steps: several streams take turns at one history, one event a step (of this project).
use Rattle.std.specs.Prelude.{⊤, ◌⊎◌, ◌≡◌, ◌≢◌, ℕ, ◌+◌, ◌<◌, ◌==◌, ◌&&◌, Bool, true, false, if◌then◌else◌, IsTrue, List, [], ◌∷◌, ◌++◌, length, map, drop, count_by}
use Rattle.std.specs.List.{flat_map}
use Rattle.http_messages.specs.declared.messages.Reply.{Reply}
use Rattle.http_messages.specs.declared.ends.SessionEnd.{SessionEnd}
use Rattle.http_messages.specs.declared.ends.SessionEnd.TheVariants as end
use Rattle.world_cells.specs.declared.keys.CellKey.{CellKey}
use Rattle.world_cells.specs.declared.sets.ReadSet.{ReadSet}
use Rattle.world_cells.specs.declared.sets.Written.{Written}
use Rattle.world_cells.specs.World.{World}
use Rattle.world_cells.specs.Reads.{covers}
use Rattle.task_forms.specs.declared.tasks.Task.{Task}
use Rattle.task_forms.specs.declared.tasks.Entry.{Entry}
use Rattle.task_forms.specs.Meaning.{Meaning, world_after}
use Rattle.history_model.specs.declared.checks.Check.{Check}
use Rattle.history_model.specs.declared.checks.Check.TheVariants as check
use Rattle.history_model.specs.Trials.{IsTried}
use Rattle.history_model.specs.Histories.{world_at}
use Rattle.history_model.specs.Standing.{IsSaid}

-- ---- events

-- What a stream has come to. A snapshot and a trial are of the world after the entries up to a number.
pub data Stage : Type 0 where
  resting : Stage  -- it is between two tasks
  waiting : Task → ℕ → Stage  -- its task was refused so often
  snapped : Task → ℕ → ℕ → Stage  -- the same, and a snapshot at that number was taken for it
  tried : Task → ℕ → ℕ → Stage  -- the same, and it was tried on that snapshot
  ended : SessionEnd → Stage

-- what a step did
pub data Act : Type 0 where
  passes : Act  -- nothing
  ends : SessionEnd → Act  -- the stream ended
  snaps : Task → Act  -- a snapshot was taken for a task
  tries : Act  -- the task was tried on it
  refuses : ReadSet → Check → Act  -- the commit of the trial with these reads was refused for that
  joins : Entry → Act  -- the commit, or the settling, was done, and the entry joined the history

-- the stream that took the step, what it did, and what the stream came to by it
pub record Event : Type 0 where
  pub by : ℕ
  pub act : Act
  pub now : Stage

-- ---- what events made

abbrev pub joined : Act → List Entry
joined (joins e) = e ∷ []
joined act = []

-- the entries that joined, in order
abbrev pub history_of : List Event → List Entry
history_of events = flat_map (λ e. joined e.act) events

-- what a stream has come to by these events, from a stage on
abbrev pub stage_from : Stage → ℕ → List Event → Stage
stage_from stage k [] = stage
stage_from stage k (e ∷ events) = stage_from (if e.by == k then e.now else stage) k events

-- what a stream has come to: the stage of its last event
abbrev pub stage_of : ℕ → List Event → Stage
stage_of k events = stage_from resting k events

abbrev pub is_refusal : Act → Bool
is_refusal (refuses reads why) = true
is_refusal act = false

-- the refused commits of a stream
abbrev pub refused_of : ℕ → List Event → ℕ
refused_of k events = count_by (λ e. (e.by == k) && is_refusal e.act) events

-- ---- runs

-- reads that a trial of a task in a world may have: they tell its answer, and are no more than it may look at
pub record AreTrialReads (m : Meaning) (w : World) (t : Task) (reads : ReadSet) : Type 0 where
  pub writes : List Written
  pub reply : Reply
  pub enough : IsTried m (m.cells w) t reads writes reply
  pub within : (k : CellKey) → IsTrue (covers reads k) → IsTrue (m.reach w t k)

-- the entry of a task at the end of a history
abbrev pub next_entry : Meaning → World → List Entry → ℕ → Task → Entry
next_entry m w h by t = record { by = by; task = t; reply = m.answer (world_after m w h) t }

-- What a stream whose task was answered comes to: its reply was sent, and ended the connection where it says so.
abbrev pub IsAnswered : Stage → Type 0
IsAnswered now = (now ≡ resting) ⊎ (now ≡ ended end.Closed)

-- a log of `window` entries, and a history that begins in the world w after the number `first`
module _ (m : Meaning) (window first : ℕ) (w : World) where
  -- a commit of a task that was tried at a number is refused for that: its reads meet a later entry, or it is too old
  abbrev pub IsRefusal : List Entry → Task → ℕ → ReadSet → Check → Type 0
  IsRefusal h t at reads why =
      AreTrialReads m (world_at m first w h at) t reads × IsSaid m first w h window reads at why × (why ≢ check.Clear)

  -- Behind these entries, a stream at the first stage may do this, and comes to the last stage.
  abbrev pub Takes : List Entry → ℕ → Stage → Act → Stage → Type 0
  Takes h by (ended e) passes now = now ≡ ended e
  Takes h by (ended e) act now = ⊥
  Takes h by resting (ends e) now = now ≡ ended e
  Takes h by resting (snaps t) now = m.fit t × (now ≡ snapped t 0 (first + length h))
  Takes h by (waiting t n) (snaps u) now = (u ≡ t) × (n < 3) × (now ≡ snapped t n (first + length h))
  Takes h by (waiting t n) (joins e) now = (n ≡ 3) × (e ≡ next_entry m w h by t) × IsAnswered now
  Takes h by (snapped t n at) tries now = now ≡ tried t n at
  Takes h by (tried t n at) (refuses reads why) now = IsRefusal h t at reads why × (now ≡ waiting t (n + 1))
  Takes h by (tried t n at) (joins e) now = (e ≡ next_entry m w h by t) × IsAnswered now
  Takes h by stage (ends end.NoMemory) now = now ≡ ended end.NoMemory
  Takes h by stage act now = ⊥

  -- each of these events is one that its stream may do behind all the events before it
  abbrev pub RunsOn : List Event → List Event → Type 0
  RunsOn before [] = ⊤
  RunsOn before (e ∷ events) = Takes (history_of before) e.by (stage_of e.by before) e.act e.now × RunsOn (before ++ e ∷ []) events

  -- A run of steps: each takes the stream of its number by one event.
  pub record IsRun (steps : List ℕ) (events : List Event) : Type 0 where
    pub streams : map (λ e. e.by) events ≡ steps
    pub each : RunsOn [] events

-- ---- the history that a list of numbers tells

-- a list by its first item, if it has one
abbrev pub with_first : {A B : Type 0} → List A → (A → List B) → List B
with_first [] f = []
with_first (t ∷ ts) f = f t

-- the tasks of each stream that are still to come, where one stream's next one was taken
abbrev pub without_next : ℕ → (ℕ → List Task) → ℕ → List Task
without_next k tasks j = if j == k then drop 1 (tasks j) else tasks j

-- The history from the world w on whose entries have these numbers, each with the next task of its stream and with its
-- answer as the reply.
abbrev pub rebuilt : Meaning → World → (ℕ → List Task) → List ℕ → List Entry
rebuilt m w tasks [] = []
rebuilt m w tasks (k ∷ numbers) =
    with_first (tasks k) (λ t. record { by = k; task = t; reply = m.answer w t } ∷ rebuilt m (m.effect w t) (without_next k tasks) numbers)

-- tasks begin so
abbrev pub Begins : List Task → List Task → Type 0
Begins front tasks = (more : List Task) × (tasks ≡ front ++ more)
