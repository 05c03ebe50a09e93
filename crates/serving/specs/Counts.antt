-- What the ends of workers add up to (of this project).
use Rattle.std.specs.Prelude.{ℕ, ◌*◌, ◌≤◌, Bool, true, false, Some, None}
use Rattle.std.specs.declared.option.Option.{Option}
use Rattle.http_messages.specs.declared.limits.TheConstants.{MESSAGE_LIMIT}
use Rattle.connection_workers.specs.declared.workers.Cause.{Cause}
use Rattle.connection_workers.specs.declared.workers.Cause.TheVariants as cause
use Rattle.connection_workers.specs.declared.workers.TheConstants.{QUOTA_LIMIT}
use Rattle.connection_workers.specs.declared.workers.WorkerEnd.{WorkerEnd}

abbrev pub sessions_at : Option WorkerEnd → ℕ
sessions_at None = 0
sessions_at (Some end) = end.sessions

abbrev pub requests_at : Option WorkerEnd → ℕ
requests_at None = 0
requests_at (Some end) = end.requests

abbrev pub entries_at : Option WorkerEnd → ℕ
entries_at None = 0
entries_at (Some end) = end.entries

-- no more connections and messages than a worker can have
pub record IsCounted (end : Option WorkerEnd) : Type 0 where
  pub sessions : sessions_at end ≤ QUOTA_LIMIT
  pub requests : requests_at end ≤ MESSAGE_LIMIT * QUOTA_LIMIT

abbrev pub is_quota : Cause → Bool
is_quota cause.Quota = true
is_quota cause.AcceptFault = false
is_quota cause.Worn = false

-- the worker has served as many connections as it was to
abbrev pub is_by_quota : Option WorkerEnd → Bool
is_by_quota None = false
is_by_quota (Some end) = is_quota end.cause
