use Rattle.std.proofs.Common.{◌≡◌, ◌≤◌, ◌<◌, ◌+◌, ◌-◌, ℕ, None}
use Rattle.session_engine.specs.Plans.{plans_of}
use Rattle.session_engine.proofs.Serving.{Serving}
use Rattle.session_engine.proofs.Counting.{CountedFrom}
use Rattle.http_messages.specs.declared.limits.TheConstants.{MESSAGE_LIMIT}
use Rattle.session_engine.proofs.drives.serve.Given as goal

abbrev pub invariant-serving : goal.invariant-serving
invariant-serving g l = record {
  fixed : g.D.Desk.fixed l.desk ≡ g.D.Desk.fixed l.fn.desk;
  so_far : (base : ℕ) → Serving (plans_of (g.P.Planner.planned l.planner)) (CountedFrom (g.D.Desk.stands l.fn.desk) base) (CountedFrom (g.D.Desk.stands l.desk) (base + l.entries)) l.session (g.S.Source.told l.fn.source) (g.S.Source.told l.source) (g.K.Sink.told l.fn.sink) (g.K.Sink.told l.sink);
  idle : l.session.pending ≡ None;
  answered : l.session.answered < MESSAGE_LIMIT;
  made : l.entries ≤ l.session.answered;
  reads : (g.S.Source.told l.source).faults ≡ (g.S.Source.told l.fn.source).faults;
  writes : (g.K.Sink.told l.sink).faults ≡ (g.K.Sink.told l.fn.sink).faults;
}

abbrev pub decreases-serving : goal.decreases-serving
decreases-serving g l = MESSAGE_LIMIT - l.session.answered
