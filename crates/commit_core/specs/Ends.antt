-- What the ends of a commit and of a settling tell.
use Rattle.std.specs.Prelude.{⊤, ◌≡◌, ◌<◌, ◌+◌, ℕ}
use Rattle.task_forms.specs.declared.tasks.Entry.{Entry}
use Rattle.task_forms.specs.Desks.{last_number}
use Rattle.history_model.specs.declared.checks.Check.{Check}
use Rattle.history_model.specs.declared.checks.Check.TheVariants as check
use Rattle.history_model.specs.Commits as commits
use Rattle.commit_core.specs.declared.attempts.Attempt.{Attempt}
use Rattle.commit_core.specs.declared.ends.CommitEnd.{CommitEnd}
use Rattle.commit_core.specs.declared.ends.CommitEnd.TheVariants.{Done, Stale, NoMemory, Worn}
use Rattle.commit_core.specs.declared.ends.SettleEnd.{SettleEnd}
use Rattle.commit_core.specs.declared.ends.SettleEnd.TheVariants as settle
use Rattle.commit_core.specs.declared.ends.Setback.{Setback}
use Rattle.commit_core.specs.declared.ends.Setback.TheVariants.{Conflict, Aged}
use Rattle.commit_core.specs.Attempts.{attempt_at}

-- what a setback is as an answer of the log
abbrev pub check_of : Setback → Check
check_of (Conflict n) = check.Conflict n
check_of (Aged n) = check.Aged n

abbrev pub number_of : Setback → ℕ
number_of (Conflict n) = n
number_of (Aged n) = n

-- the end of a commit without the attempt that it gives back
abbrev pub end_of : CommitEnd → commits.CommitEnd
end_of (Done e) = commits.CommitEnd.done e
end_of (Stale a why) = commits.CommitEnd.stale (check_of why)
end_of (NoMemory a) = commits.CommitEnd.no_memory
end_of (Worn a) = commits.CommitEnd.worn

abbrev pub IfDone : CommitEnd → (Entry → Type 0) → Type 0
IfDone (Done e) P = P e
IfDone end P = ⊤

abbrev pub IfStale : CommitEnd → (Setback → Type 0) → Type 0
IfStale (Stale a why) P = P why
IfStale end P = ⊤

abbrev pub UnlessDone : CommitEnd → Type 0 → Type 0
UnlessDone (Done e) p = ⊤
UnlessDone end p = p

-- the attempt that comes back: with one refusal more, or as it was
abbrev pub ComesBack : Attempt → CommitEnd → Type 0
ComesBack attempt (Done e) = ⊤
ComesBack attempt (Stale a why) = a ≡ attempt_at attempt.task (attempt.refused + 1) (number_of why)
ComesBack attempt (NoMemory a) = a ≡ attempt
ComesBack attempt (Worn a) = a ≡ attempt

abbrev pub IfSettled : SettleEnd → (Entry → Type 0) → Type 0
IfSettled (settle.Done e) P = P e
IfSettled end P = ⊤

abbrev pub UnlessSettled : SettleEnd → Type 0 → Type 0
UnlessSettled (settle.Done e) p = ⊤
UnlessSettled end p = p

abbrev pub SettlesBack : Attempt → SettleEnd → Type 0
SettlesBack attempt (settle.Done e) = ⊤
SettlesBack attempt (settle.NoMemory a) = a ≡ attempt
SettlesBack attempt (settle.Worn a) = a ≡ attempt

-- worn exactly at the last number
abbrev pub SettleCause : ℕ → SettleEnd → Type 0
SettleCause count (settle.Worn a) = count ≡ last_number
SettleCause count end = count < last_number
