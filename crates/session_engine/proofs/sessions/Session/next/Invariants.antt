use Rattle.std.proofs.Common.{◌≡◌, ◌-◌}
use Rattle.session_engine.specs.Plans.{plans_of}
use Rattle.session_engine.proofs.Loops.{Going}
use Rattle.http_messages.specs.declared.limits.TheConstants.{MESSAGE_LIMIT}
use Rattle.session_engine.proofs.sessions.Session.next.Given as goal

abbrev pub invariant-answering : goal.invariant-answering
invariant-answering g l = record {
  going : Going (plans_of (g.P.Planner.planned l.planner)) l.fn.self l.self (g.S.Source.told l.fn.source) (g.S.Source.told l.source) (g.K.Sink.told l.fn.sink) (g.K.Sink.told l.sink);
  reads : (g.S.Source.told l.source).faults ≡ (g.S.Source.told l.fn.source).faults;
  writes : (g.K.Sink.told l.sink).faults ≡ (g.K.Sink.told l.fn.sink).faults;
}

abbrev pub decreases-answering : goal.decreases-answering
decreases-answering g l = MESSAGE_LIMIT - l.self.answered
