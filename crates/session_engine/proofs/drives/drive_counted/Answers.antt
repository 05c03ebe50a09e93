use Rattle.std.proofs.Common.{◌≡◌, ◌+◌, ℕ, length, sym, subst, add-zero}
use Rattle.session_engine.specs.Plans.{plans_of}
use Rattle.session_engine.specs.Seen.{Serves, Counted}
use Rattle.session_engine.proofs.Counting.{CountedFrom}
use Rattle.session_engine.proofs.Serving.{serve_start}
use Rattle.session_engine.proofs.drives.drive_counted.Goals as goal

pub returns-in_default-clause-serves : goal.returns-in_default-clause-serves
returns-in_default-clause-serves g c first w seen mine h =
    serve_start c.read_stays.ensures _ (CountedFrom (g.D.Desk.stands c.args.desk.now) (length mine + 0)) _ _ _ _ c.finish-end.ensures.sends first w seen mine (h, sym (add-zero (length mine)))

pub returns-clause-serves : goal.returns-clause-serves
returns-clause-serves g c first w seen mine h =
    subst (λ (k : ℕ). Serves (plans_of (g.P.Planner.planned c.args.planner.now)) (Counted (g.D.Desk.stands c.serve-end.new.desk first w) (length mine + c.serve-end.result.entries)) first seen mine
    (g.S.Source.told c.args.source.now) (g.S.Source.told c.serve-end.new.source)
    (g.K.Sink.told c.args.sink.now) (g.K.Sink.told c.serve-end.new.sink) k c.serve-end.result.end)
    (sym c.answered.ensures.is) (c.serve-end.ensures.serves first w seen mine h)
