use Rattle.std.proofs.Common.{◌≡◌, ◌*◌, ◌≤◌, sum_by, take}
use Rattle.http_messages.specs.declared.limits.TheConstants.{MESSAGE_LIMIT}
use Rattle.connection_workers.specs.declared.workers.TheConstants.{QUOTA_LIMIT}
use Rattle.serving.specs.Counts.{requests_at, sessions_at}
use Rattle.serving.proofs.counts.served_by.Given as goal

abbrev pub invariant-loop-station : goal.invariant-loop-station
invariant-loop-station g l = record {
  sessions : l.sessions ≡ sum_by (λ s. sessions_at s.end) (take l.station-index l.stations);
  requests : l.requests ≡ sum_by (λ s. requests_at s.end) (take l.station-index l.stations);
  few : l.sessions ≤ QUOTA_LIMIT * l.station-index;
  bounded : l.requests ≤ MESSAGE_LIMIT * QUOTA_LIMIT * l.station-index;
}
