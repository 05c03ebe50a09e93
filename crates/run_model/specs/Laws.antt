-- What holds of events and runs: the statements of this crate's law functions (all of this project).
use Rattle.std.specs.Prelude.{◌≡◌, ◌≢◌, ℕ, ◌+◌, if◌then◌else◌, List, [], ◌∷◌, ◌++◌, map}
use Rattle.ident_rules.specs.Owned.{entries_by}
use Rattle.world_cells.specs.declared.sets.ReadSet.{ReadSet}
use Rattle.world_cells.specs.World.{World}
use Rattle.task_forms.specs.declared.tasks.Task.{Task}
use Rattle.task_forms.specs.declared.tasks.Entry.{Entry}
use Rattle.task_forms.specs.Meaning.{Meaning, world_after, AreAnswers, IsLegal}
use Rattle.history_model.specs.declared.checks.Check.{Check}
use Rattle.history_model.specs.Histories.{MayRefuse}
use Rattle.run_model.specs.Runs.{Event, joined, history_of, stage_of, is_refusal, refused_of, Takes, IsRun, IsRefusal, Begins, rebuilt}

-- ---- one more event

abbrev pub HistoryGrows : Type 0
HistoryGrows = (events : List Event) (e : Event) → history_of (events ++ e ∷ []) ≡ history_of events ++ joined e.act

-- its stream has come to its stage
abbrev pub StageIsLast : Type 0
StageIsLast = (k : ℕ) (events : List Event) (e : Event) → e.by ≡ k → stage_of k (events ++ e ∷ []) ≡ e.now

abbrev pub OthersStagesStay : Type 0
OthersStagesStay = (k : ℕ) (events : List Event) (e : Event) → e.by ≢ k → stage_of k (events ++ e ∷ []) ≡ stage_of k events

abbrev pub RefusalsAreCounted : Type 0
RefusalsAreCounted = (k : ℕ) (events : List Event) (e : Event) → e.by ≡ k → refused_of k (events ++ e ∷ []) ≡ refused_of k events + (if is_refusal e.act then 1 else 0)

abbrev pub OthersRefusalsStay : Type 0
OthersRefusalsStay = (k : ℕ) (events : List Event) (e : Event) → e.by ≢ k → refused_of k (events ++ e ∷ []) ≡ refused_of k events

-- ---- one more entry

-- the entries of one stream, in order
abbrev pub own_entries : ℕ → List Entry → List Entry
own_entries k h = entries_by (λ e. e.by) (k ∷ []) h

abbrev pub OwnEntryJoins : Type 0
OwnEntryJoins = (k : ℕ) (h : List Entry) (e : Entry) → e.by ≡ k → own_entries k (h ++ e ∷ []) ≡ own_entries k h ++ e ∷ []

abbrev pub OthersEntriesStay : Type 0
OthersEntriesStay = (k : ℕ) (h : List Entry) (e : Entry) → e.by ≢ k → own_entries k (h ++ e ∷ []) ≡ own_entries k h

-- ---- runs

-- a run, and one more event that its stream may take
abbrev pub RunsGrow : Meaning → Type 0
RunsGrow m =
    (window first : ℕ) (w : World) (steps : List ℕ) (events : List Event) (e : Event) → IsRun m window first w steps events
    → Takes m window first w (history_of events) e.by (stage_of e.by events) e.act e.now → IsRun m window first w (steps ++ e.by ∷ []) (events ++ e ∷ [])

-- what a run makes is a legal history
abbrev pub RunsAreLegal : Meaning → Type 0
RunsAreLegal m =
    (window first : ℕ) (w : World) (steps : List ℕ) (events : List Event) → m.valid w → IsRun m window first w steps events → IsLegal m w (history_of events)

-- a refusal of a run is one that a commit may come to
abbrev pub RefusalsAreConflicts : Meaning → Type 0
RefusalsAreConflicts m =
    (window first : ℕ) (w : World) (h : List Entry) (t : Task) (at : ℕ) (reads : ReadSet) (why : Check)
    → IsRefusal m window first w h t at reads why → MayRefuse m first w h t at window

-- ---- histories

-- the last of a list of answers is the answer in the world before it
abbrev pub LastIsAnswered : Meaning → Type 0
LastIsAnswered m = (w : World) (h : List Entry) (e : Entry) → AreAnswers m w (h ++ e ∷ []) → m.fit e.task × (e.reply ≡ m.answer (world_after m w h) e.task)

-- a history in which each stream's tasks are its first ones in their order is told by its numbers
abbrev pub HistoryIsRebuilt : Meaning → Type 0
HistoryIsRebuilt m =
    (w : World) (tasks : ℕ → List Task) (h : List Entry) → AreAnswers m w h → ((k : ℕ) → Begins (map (λ e. e.task) (own_entries k h)) (tasks k))
    → rebuilt m w tasks (map (λ e. e.by) h) ≡ h
