-- Streams that take turns at one core, and what a step of one does (of this project).
use Rattle.std.specs.Prelude.{⊤, ◌≡◌, ℕ, ◌+◌, ◌-◌, ◌*◌, ◌<◌, Bool, true, false, if◌then◌else◌, IsSome, List, [], ◌∷◌, ◌++◌, map, Some, None, Option}
use Rattle.http_messages.specs.declared.ends.SessionEnd.{SessionEnd}
use Rattle.http_messages.specs.declared.limits.TheConstants.{MESSAGE_LIMIT}
use Rattle.world_cells.specs.World.{World}
use Rattle.task_forms.specs.declared.tasks.Task.{Task}
use Rattle.task_forms.specs.declared.tasks.Entry.{Entry}
use Rattle.task_forms.specs.Meaning.{Meaning}
use Rattle.session_engine.specs.Driving.{IsAtTask, IsOver}
use Rattle.session_engine.specs.Plans.{TaskPlans}
use Rattle.run_model.specs.Runs.{Stage, ended, Act, joined, is_refusal, Takes}
use Rattle.run_model.specs.Laws.{own_entries}
use Rattle.commit_core.specs.declared.cores.Core.{Core}
use Rattle.commit_core.specs.Standing.{StandsFor, meaning_in}
use Rattle.core_steps.specs.declared.steppers.Stepper.{Stepper}
use Rattle.core_steps.specs.declared.steppers.Stepper.TheVariants.{Empty, Waiting, Snapped, Tried}
use Rattle.core_steps.specs.Stepping.{stage_in, task_in, steps_left, MayStep, IsFitIn}
use Rattle.core_steps.specs.Steps.{IsReady}
use Rattle.replay_runs.specs.declared.lines.Line.{Line}
use Rattle.replay_runs.specs.declared.streams.Stream.{Stream}
use Rattle.replay_runs.specs.Lines.{connection, Rests}

-- what a stream has come to
abbrev pub stage_at : Option SessionEnd → Stepper → Stage
stage_at (Some e) s = ended e
stage_at None s = stage_in s

-- what was sent on it is what its bytes are to be sent, by these entries so far
abbrev pub IsServedSo : TaskPlans → List ℕ → List Entry → Option SessionEnd → Option Task → Line → Type 0
IsServedSo plans bytes entries (Some e) task l = IsOver plans bytes entries e (connection l)
IsServedSo plans bytes entries None None l = Rests plans bytes entries l
IsServedSo plans bytes entries None (Some t) l = IsAtTask plans bytes entries t (connection l)

-- a step can be taken, over a core of that count
abbrev pub MayGo : Meaning → ℕ → Option SessionEnd → Stepper → Line → Type 0
MayGo m count (Some e) s l = ⊤
MayGo m count None Empty l = (l.session.answered < MESSAGE_LIMIT) × (l.session.pending ≡ None)
MayGo m count None s l = MayStep count s × IsFitIn m s × IsSome l.session.pending × (l.session.answered < MESSAGE_LIMIT)

-- more steps than it can still take until it has ended
abbrev pub left_of : Option SessionEnd → ℕ → Stepper → ℕ
left_of (Some e) answered s = 0
left_of None answered s = 11 * (MESSAGE_LIMIT - answered) + steps_left s

abbrev pub left_in : Stream → ℕ
left_in s = left_of s.end s.line.session.answered s.stepper

-- the number of a stream, where its entry joined
abbrev pub if_joined : Bool → ℕ → List ℕ
if_joined true by = by ∷ []
if_joined false by = []

-- Behind a history a stream took one step of a run: it stood at the stage `before`, and is now as told.
pub record OneStep (m : Meaning) (plans : TaskPlans) (window : ℕ) (w : World) (bytes : List ℕ) (by : ℕ) (h : List Entry)
    (before : Stage) (refused : ℕ) (now : Stream) (has_joined : Bool) (stands : List Entry → Type 0) : Type 0 where
  pub act : Act
  pub takes : Takes m window 0 w h by before act (stage_at now.end now.stepper)
  pub told : map (λ e. e.by) (joined act) ≡ if_joined has_joined by
  pub counted : now.refused ≡ refused + (if is_refusal act then 1 else 0)
  pub stood : stands (h ++ joined act)
  pub served : IsServedSo plans bytes (own_entries by (h ++ joined act)) now.end (task_in now.stepper) now.line
  pub ready : IsReady m 0 w (h ++ joined act) now.stepper
  pub fit : IsFitIn m now.stepper

-- of every history for which the core stood: a stream with this end and this task took one step of a run
module _ {S K : Type 0} (kind : S → K) (meaning : K → Meaning) (plans : TaskPlans) where
  abbrev pub StepsFrom : Core S → Core S → ℕ → Option SessionEnd → Stepper → Stream → Stream → Bool → Type 0
  StepsFrom core core_now by end stepper old new has_joined =
      (bytes : List ℕ) (w : World) (h : List Entry) → StandsFor kind meaning core 0 w h
      → IsServedSo plans bytes (own_entries by h) end (task_in stepper) old.line → IsReady (meaning_in kind meaning core) 0 w h stepper
      → IsFitIn (meaning_in kind meaning core) stepper
      → OneStep (meaning_in kind meaning core) plans core.tally.log.window w bytes by h (stage_at end stepper) old.refused new has_joined (StandsFor kind meaning core_now 0 w)

-- a stream that brings these bytes, before its first step
pub record IsNew (bytes : List ℕ) (s : Stream) : Type 0 where
  pub line : (plans : TaskPlans) → Rests plans bytes [] s.line
  pub stepper : s.stepper ≡ Empty
  pub end : s.end ≡ None
  pub refused : s.refused ≡ 0
