-- Where the task of a stream stands, and what a step of it does (of this project).
use Rattle.std.specs.Prelude.{⊤, ◌≡◌, ℕ, ◌-◌, ◌*◌, Some, None, Option, IfSome, ◌<◌, ◌≤◌}
use Rattle.http_messages.specs.declared.ends.SessionEnd.TheVariants as end
use Rattle.task_forms.specs.declared.tasks.Task.{Task}
use Rattle.task_forms.specs.Desks.{last_number}
use Rattle.task_forms.specs.Meaning.{Meaning}
use Rattle.run_model.specs.Runs.{Stage, resting, waiting, snapped, tried, ended, Act, ends, snaps, tries, refuses, joins}
use Rattle.commit_core.specs.Ends.{check_of}
use Rattle.core_steps.specs.declared.steppers.Stepper.{Stepper}
use Rattle.core_steps.specs.declared.steppers.Stepper.TheVariants.{Empty, Waiting, Snapped, Tried}
use Rattle.core_steps.specs.declared.steppers.StepEnd.{StepEnd}
use Rattle.core_steps.specs.declared.steppers.StepEnd.TheVariants as step

-- the stage of a stream whose task stands so
abbrev pub stage_in : Stepper → Stage
stage_in Empty = resting
stage_in (Waiting a) = waiting a.task a.refused
stage_in (Snapped a s) = snapped a.task a.refused s.at
stage_in (Tried a t) = tried a.task a.refused t.at

-- the stage after a step that came to that
abbrev pub stage_after : StepEnd → Stepper → Stage
stage_after step.NoMemory s = ended end.NoMemory
stage_after e s = stage_in s

-- a step can be taken over a core of that count
abbrev pub MayStep : ℕ → Stepper → Type 0
MayStep count Empty = ⊥
MayStep count (Waiting a) = (a.refused ≤ 3) × (a.last ≤ count)
MayStep count (Snapped a s) = (a.refused < 3) × (a.last ≤ s.at)
MayStep count (Tried a t) = (a.refused < 3) × (a.last ≤ t.at)

-- the task, if there is one
abbrev pub task_in : Stepper → Option Task
task_in Empty = None
task_in (Waiting a) = Some a.task
task_in (Snapped a s) = Some a.task
task_in (Tried a t) = Some a.task

-- its task is fit
abbrev pub IsFitIn : Meaning → Stepper → Type 0
IsFitIn m s = IfSome (task_in s) m.fit

-- how many steps a task may still take, refused three times; without one, one more than a new one's
abbrev pub steps_left : Stepper → ℕ
steps_left Empty = 11
steps_left (Waiting a) = 10 - 3 * a.refused
steps_left (Snapped a s) = 9 - 3 * a.refused
steps_left (Tried a t) = 8 - 3 * a.refused

-- what a step does to the task, whatever the history
abbrev pub Moves : Stepper → ℕ → StepEnd → Stepper → Type 0
Moves old by step.Moved new = (task_in new ≡ task_in old) × (steps_left new < steps_left old)
Moves old by (step.Refused why) new = (task_in new ≡ task_in old) × (steps_left new < steps_left old)
Moves old by (step.Done e) new = (new ≡ Empty) × (e.by ≡ by) × (Some e.task ≡ task_in old)
Moves old by step.NoMemory new = new ≡ Empty
Moves old by step.Worn new = new ≡ Empty

-- unless an entry joined
abbrev pub UnlessJoined : StepEnd → Type 0 → Type 0
UnlessJoined (step.Done e) p = ⊤
UnlessJoined end p = p

-- worn is told at the last number, and a commit or a settling is judged below it
abbrev pub StepCause : ℕ → StepEnd → Type 0
StepCause count step.Moved = ⊤
StepCause count (step.Refused why) = count < last_number
StepCause count (step.Done e) = count < last_number
StepCause count step.NoMemory = ⊤
StepCause count step.Worn = count ≡ last_number

-- an act, as the end of a step tells it
abbrev pub IsTold : Act → StepEnd → Type 0
IsTold (snaps t) step.Moved = ⊤
IsTold tries step.Moved = ⊤
IsTold (refuses reads why) (step.Refused setback) = why ≡ check_of setback
IsTold (joins e) (step.Done f) = e ≡ f
IsTold (ends e) step.NoMemory = e ≡ end.NoMemory
IsTold act end = ⊥
