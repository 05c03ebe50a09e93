-- What a commit comes to, by the count, the log and the trial; and what it leaves of every history for which the store stood.
use Rattle.std.specs.Prelude.{◌≡◌, ◌≢◌, ℕ, ◌+◌, ◌<◌, ◌≤◌, List, [], ◌∷◌, ◌++◌, length}
use Rattle.http_messages.specs.declared.messages.Reply.{Reply}
use Rattle.world_cells.specs.declared.sets.ReadSet.{ReadSet}
use Rattle.world_cells.specs.declared.sets.Written.{Written}
use Rattle.world_cells.specs.World.{World}
use Rattle.world_cells.specs.Reads.{Cells}
use Rattle.task_forms.specs.declared.tasks.Task.{Task}
use Rattle.task_forms.specs.declared.tasks.Entry.{Entry}
use Rattle.task_forms.specs.Desks.{last_number}
use Rattle.task_forms.specs.Meaning.{Meaning}
use Rattle.history_model.specs.declared.checks.Check.{Check}
use Rattle.history_model.specs.declared.checks.Check.TheVariants as check
use Rattle.history_model.specs.Histories.{world_at}
use Rattle.history_model.specs.Standing.{Log, LogSays, Stands}
use Rattle.history_model.specs.Trials.{IsTried}

-- the end of a commit: its entry, the answer of the log that refused it, want of memory, or a store that takes no further entry
pub data CommitEnd : Type 0 where
  done : Entry → CommitEnd
  stale : Check → CommitEnd
  no_memory worn : CommitEnd

-- A worn store is told before all else, and then what the log answers. Want of memory may come in place of either answer of the log.
abbrev pub CommitCause : ℕ → Log → ReadSet → ℕ → CommitEnd → Type 0
CommitCause count log reads at (done e) = (count < last_number) × LogSays log reads at check.Clear
CommitCause count log reads at (stale answer) = (count < last_number) × (answer ≢ check.Clear) × LogSays log reads at answer
CommitCause count log reads at no_memory = count < last_number
CommitCause count log reads at worn = count ≡ last_number

-- a trial of a task on a snapshot of a history, taken at a number
pub record IsTrialOf (m : Meaning) (first : ℕ) (w : World) (entries : List Entry) (at : ℕ) (t : Task) (reads : ReadSet) (writes : List Written) (reply : Reply) : Type 0 where
  pub low : first ≤ at
  pub high : at ≤ first + length entries
  pub tried : IsTried m (m.cells (world_at m first w entries at)) t reads writes reply

-- What a commit leaves, of every history for which the store stood and of which the trial was: with its entry, or as before.
abbrev pub CommitLeaves : Meaning → (old new : Cells) → (count count_now : ℕ) → (log log_now : Log) → ℕ → Task → ReadSet → List Written → Reply → ℕ → CommitEnd → Type 0
CommitLeaves m old new count count_now log log_now at t reads writes reply by (done e) =
    (e ≡ record { by = by; task = t; reply = reply })
    × ((first : ℕ) (w : World) (entries : List Entry) → Stands m old count log first w entries → IsTrialOf m first w entries at t reads writes reply
    → Stands m new count_now log_now first w (entries ++ e ∷ []))
CommitLeaves m old new count count_now log log_now at t reads writes reply by end = (count_now ≡ count) × (log_now ≡ log) × (new ≡ old)
