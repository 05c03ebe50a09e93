-- What a try of a task, and the answer to it, leave of a pass (of this project).
use Rattle.std.specs.Prelude.{◌≡◌, ℕ, ◌+◌, ◌≤◌, [], ◌∷◌, length}
use Rattle.std.specs.declared.result.Result.{Result}
use Rattle.std.specs.declared.result.Result.TheVariants.{Ok, Err}
use Rattle.http_messages.specs.declared.messages.Reply.{Reply}
use Rattle.task_forms.specs.declared.desk.DeskEnd.{DeskEnd}
use Rattle.task_forms.specs.declared.tasks.Entry.{Entry}
use Rattle.task_forms.specs.declared.tasks.Task.{Task}
use Rattle.task_forms.specs.Desks.{IsWornEnd, last_number}
use Rattle.task_forms.specs.Meaning.{Meaning}
use Rattle.history_lock.specs.Views.{PassState}
use Rattle.commit_core.specs.declared.attempts.Attempt.{Attempt}
use Rattle.commit_core.specs.Serving.{Grows}
use Rattle.shared_desk.specs.declared.tries.TryEnd.{TryEnd}
use Rattle.shared_desk.specs.declared.tries.TryEnd.TheVariants.{Done, Refused, Ended}

module _ {K : Type 0} (m : Meaning) (old : PassState Entry K) where
  -- one entry of the task joined, last and as the pass's own
  pub record JoinsPass (task : Task) (new : PassState Entry K) (reply : Reply) : Type 0 where
    pub by : ℕ
    pub grows : Grows m old new (record { by = by; task = task; reply = reply } ∷ [])

  -- none joined; a worn store has the last number
  pub record EndsPass (new : PassState Entry K) (end : DeskEnd) : Type 0 where
    pub grows : Grows m old new []
    pub worn : IsWornEnd end → new.view.first + length new.view.seen ≡ last_number

  -- none joined, and the attempt is refused once more
  pub record RefusedPass (attempt : Attempt) (new : PassState Entry K) (again : Attempt) : Type 0 where
    pub grows : Grows m old new []
    pub task : again.task ≡ attempt.task
    pub refused : again.refused ≡ attempt.refused + 1
    pub last : again.last ≤ new.view.first + length new.view.seen

  abbrev pub TryLeaves : Attempt → PassState Entry K → TryEnd → Type 0
  TryLeaves attempt new (Done reply) = JoinsPass attempt.task new reply
  TryLeaves attempt new (Refused again) = RefusedPass attempt new again
  TryLeaves attempt new (Ended end) = EndsPass new end

  abbrev pub AnswerLeaves : Task → PassState Entry K → Result Reply DeskEnd → Type 0
  AnswerLeaves task new (Ok reply) = JoinsPass task new reply
  AnswerLeaves task new (Err end) = EndsPass new end
