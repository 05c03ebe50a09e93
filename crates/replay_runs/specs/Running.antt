-- Lists of steps over streams: how the streams and the core stand, and what is reported (of this project).
use Rattle.std.specs.Prelude.{◌≡◌, ℕ, ◌+◌, false, List, [], ◌∷◌, ◌++◌, length, map, Some, None, Option, slice_get, replicate}
use Rattle.std.specs.Option.{option_map_or}
use Rattle.http_messages.specs.declared.ends.SessionEnd.{SessionEnd}
use Rattle.http_messages.specs.declared.messages.Message.{Message}
use Rattle.http_model.specs.Requests.{AreRequests}
use Rattle.http_model.specs.Served.{Served}
use Rattle.http_model.specs.Tasks.{IsMemoryEnd, tasks_of}
use Rattle.task_forms.specs.declared.tasks.Task.{Task}
use Rattle.world_cells.specs.World.{World}
use Rattle.task_forms.specs.declared.tasks.Entry.{Entry}
use Rattle.task_forms.specs.Meaning.{Meaning}
use Rattle.session_engine.specs.Plans.{TaskPlans}
use Rattle.run_model.specs.Runs.{ended, Event, history_of, stage_of, refused_of, IsRun, rebuilt}
use Rattle.run_model.specs.Laws.{own_entries}
use Rattle.commit_core.specs.declared.cores.Core.{Core}
use Rattle.commit_core.specs.Standing.{StandsFor, meaning_in}
use Rattle.core_steps.specs.Stepping.{task_in, IsFitIn}
use Rattle.core_steps.specs.Steps.{IsReady}
use Rattle.replay_runs.specs.declared.reports.Report.{Report}
use Rattle.replay_runs.specs.declared.streams.Stream.{Stream}
use Rattle.replay_runs.specs.Streams.{stage_at, IsServedSo, left_in}

-- the tasks of the requests of a connection, in their order
abbrev pub AreTasks : TaskPlans → List ℕ → List Task → Type 0
AreTasks plans bytes tasks = (ms : List Message) × (rest : List ℕ) × AreRequests 0 bytes ms rest × (tasks ≡ tasks_of plans ms)

-- after these events the stream of a number stands so
pub record IsStream (m : Meaning) (plans : TaskPlans) (w : World) (bytes : List ℕ) (k : ℕ) (events : List Event) (s : Stream) : Type 0 where
  pub served : IsServedSo plans bytes (own_entries k (history_of events)) s.end (task_in s.stepper) s.line
  pub ready : IsReady m 0 w (history_of events) s.stepper
  pub fit : IsFitIn m s.stepper
  pub stage : stage_of k events ≡ stage_at s.end s.stepper
  pub refused : s.refused ≡ refused_of k events

-- after a run of these steps the streams and the core stand so
pub record Running (m : Meaning) (plans : TaskPlans) (window : ℕ) (w : World) (inputs : List (List ℕ)) (steps : List ℕ)
    (streams : List Stream) (history : List ℕ) (stands : List Entry → Type 0) : Type 0 where
  pub events : List Event
  pub run : IsRun m window 0 w steps events
  pub told : history ≡ map (λ e. e.by) (history_of events)
  pub stood : stands (history_of events)
  pub each : (k : ℕ) (bytes : List ℕ) (s : Stream) → slice_get inputs k ≡ Some bytes → slice_get streams k ≡ Some s → IsStream m plans w bytes k events s
  pub no_others : (k : ℕ) → slice_get inputs k ≡ None → own_entries k (history_of events) ≡ []

-- so many steps of one stream after another
abbrev pub in_turn : ℕ → List ℕ → List ℕ
in_turn k [] = []
in_turn k (n ∷ counts) = replicate n k ++ in_turn (k + 1) counts

-- more steps than a stream can still take until it has ended
abbrev pub left_at : List Stream → ℕ → ℕ
left_at streams k = option_map_or left_in (slice_get streams k) 0

module _ {S K : Type 0} (kind : S → K) (meaning : K → Meaning) (plans : TaskPlans) where
  -- the same of a core, by what it means and holds
  abbrev pub RunsOver : Core S → World → List (List ℕ) → List ℕ → List Stream → List ℕ → Type 0
  RunsOver core w inputs steps streams history =
      Running (meaning_in kind meaning core) plans core.tally.log.window w inputs steps streams history (StandsFor kind meaning core 0 w)

  -- of some inputs and steps
  abbrev pub RunsSome : Core S → List Stream → List ℕ → Type 0
  RunsSome core streams history =
      (w : World) × (inputs : List (List ℕ)) × (steps : List ℕ) × (length inputs ≡ length streams) × RunsOver core w inputs steps streams history

  -- whatever the inputs and the steps were, there are these further steps
  abbrev pub RunsOn : Core S → Core S → List Stream → List Stream → List ℕ → List ℕ → List ℕ → Type 0
  RunsOn core core_now streams streams_now history history_now more =
      (w : World) (inputs : List (List ℕ)) (steps : List ℕ) → length inputs ≡ length streams → RunsOver core w inputs steps streams history
      → RunsOver core_now w inputs (steps ++ more) streams_now history_now

  -- there are so many further steps of one stream
  abbrev pub RunsOut : Core S → Core S → List Stream → List Stream → List ℕ → List ℕ → ℕ → Type 0
  RunsOut core core_now streams streams_now history history_now k =
      (w : World) (inputs : List (List ℕ)) (steps : List ℕ) → length inputs ≡ length streams → RunsOver core w inputs steps streams history
      → (n : ℕ) × RunsOver core_now w inputs (steps ++ replicate n k) streams_now history_now

  -- there are further steps of the first streams in turn
  abbrev pub RunsAllOut : Core S → Core S → List Stream → List Stream → List ℕ → List ℕ → ℕ → Type 0
  RunsAllOut core core_now streams streams_now history history_now count =
      (w : World) (inputs : List (List ℕ)) (steps : List ℕ) → length inputs ≡ length streams → RunsOver core w inputs steps streams history
      → (counts : List ℕ) × (length counts ≡ count) × RunsOver core_now w inputs (steps ++ in_turn 0 counts) streams_now history_now

-- what is told of one stream after these events
pub record IsTold (plans : TaskPlans) (events : List Event) (k : ℕ) (bytes : List ℕ) (end : SessionEnd) (refused : ℕ) (reply : List ℕ) : Type 0 where
  pub ended_so : stage_of k events ≡ ended end
  pub refusals : refused ≡ refused_of k events
  pub answered : ℕ
  pub taken : List ℕ
  pub served : Served plans 0 bytes taken false answered (own_entries k (history_of events)) reply end
  pub in_memory : IsMemoryEnd end

-- What is reported of a list of steps over streams of these bytes: it was a run of these steps and of further ones, by which each
-- stream in turn came to its end; the history that it made is the one for which the core stands, and each stream was sent
-- what its bytes are to be sent by the entries that are its own.
pub record IsReported (m : Meaning) (plans : TaskPlans) (window : ℕ) (w : World) (inputs : List (List ℕ)) (steps : List ℕ)
    (r : Report) (stands : List Entry → Type 0) : Type 0 where
  pub events : List Event
  pub counts : List ℕ
  pub turns : length counts ≡ length inputs
  pub run : IsRun m window 0 w (steps ++ in_turn 0 counts) events
  pub told : r.history.items ≡ map (λ e. e.by) (history_of events)
  pub stood : stands (history_of events)
  -- that history is the one that the numbers tell, whatever the tasks of the streams are
  pub rebuilds : (tasks : ℕ → List Task) → ((k : ℕ) (bytes : List ℕ) → slice_get inputs k ≡ Some bytes → AreTasks plans bytes (tasks k))
      → rebuilt m w tasks r.history.items ≡ history_of events
  pub sizes : (length r.ends.items ≡ length inputs) × (length r.refused.items ≡ length inputs) × (length r.replies.items ≡ length inputs)
  pub each : (k : ℕ) (bytes : List ℕ) (end : SessionEnd) (count : ℕ) (reply : List ℕ)
      → slice_get inputs k ≡ Some bytes → slice_get r.ends.items k ≡ Some end → slice_get r.refused.items k ≡ Some count → slice_get r.replies.items k ≡ Some reply
      → IsTold plans events k bytes end count reply

-- over a new core, with a log of so many entries
abbrev pub Reports : {S K : Type 0} → (S → K) → (K → Meaning) → TaskPlans → ℕ → Core S → List (List ℕ) → List ℕ → Report → Type 0
Reports kind meaning plans window core inputs steps r =
    IsReported (meaning_in kind meaning core) plans window (meaning_in kind meaning core).empty inputs steps r (StandsFor kind meaning core 0 (meaning_in kind meaning core).empty)
