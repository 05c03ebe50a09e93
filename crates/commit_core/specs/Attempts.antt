-- Attempts at a task.
use Rattle.std.specs.Prelude.{ℕ}
use Rattle.task_forms.specs.declared.tasks.Task.{Task}
use Rattle.commit_core.specs.declared.attempts.Attempt.{Attempt}

-- a task that was refused so often, last by the entry of this number
abbrev pub attempt_at : Task → ℕ → ℕ → Attempt
attempt_at task refused last = record { task = task; refused = refused; last = last }
