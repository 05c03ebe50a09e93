use Rattle.std.proofs.Common.{◌≡◌, ◌≤◌, ◌-◌, ◌*◌}
use Rattle.http_messages.specs.declared.limits.TheConstants.{MESSAGE_LIMIT}
use Rattle.connection_workers.specs.declared.workers.Cause.TheVariants as cause
use Rattle.connection_workers.specs.Works.{WorksAll}
use Rattle.connection_workers.proofs.workers.serve_worker.Given as goal

abbrev pub invariant-serving : goal.invariant-serving
invariant-serving g l = record {
  fixed : g.D.Desk.fixed l.desk ≡ g.D.Desk.fixed l.fn.desk;
  live : (g.L.Listener.told l.listener).live ≡ (g.L.Listener.told l.fn.listener).live;
  faults : (g.L.Listener.told l.listener).faults ≡ (g.L.Listener.told l.fn.listener).faults;
  within : l.sessions ≤ l.quota;
  requests : l.requests ≤ MESSAGE_LIMIT * l.sessions;
  entries : l.entries ≤ MESSAGE_LIMIT * l.sessions;
  so_far : WorksAll (g.P.Planner.planned l.planner) (g.D.Desk.stands l.fn.desk) (g.D.Desk.stands l.desk) (g.L.Listener.told l.fn.listener) (g.L.Listener.told l.listener)
      (record { sessions = l.sessions; requests = l.requests; entries = l.entries; cause = cause.Quota });
}

abbrev pub decreases-serving : goal.decreases-serving
decreases-serving g l = l.quota - l.sessions
