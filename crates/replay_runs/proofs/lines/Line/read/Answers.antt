use Rattle.std.proofs.Common.{◌≢◌, ℕ}
use Rattle.http_messages.specs.declared.ends.SessionEnd.{SessionEnd}
use Rattle.http_messages.specs.declared.ends.SessionEnd.TheVariants.{Closed, Refused, CutShort, NoMemory}
use Rattle.session_engine.specs.Plans.{plans_of}
use Rattle.replay_runs.specs.Lines.{connection}
use Rattle.replay_runs.proofs.lines.Line.read.Goals as goal

closed_apart : Closed ≢ NoMemory
closed_apart e = cc

refused_apart : (status : ℕ) → Refused status ≢ NoMemory
refused_apart status e = cc

cut_apart : CutShort ≢ NoMemory
cut_apart e = cc

pub returns-in-Task-clause-reads : goal.returns-in-Task-clause-reads
returns-in-Task-clause-reads g c = λ bytes entries p. c.sessions_go_on.ensures.asks _ bytes entries (connection c.args.self.now) _ c.in-Task.task p.between c.in-Task.ensures.sees

pub returns-in-Task-clause-answered : goal.returns-in-Task-clause-answered
returns-in-Task-clause-answered g c =
    (c.sessions_go_on.ensures.waits (plans_of (g.P.Planner.planned c.args.planner.now)) (connection c.args.self.now) (record { source = c.next.new.source; sink = c.next.new.sink; session = c.next.new.self }) c.in-Task.task c.in-Task.ensures.sees).answered

pub returns-in-Task-clause-asked : goal.returns-in-Task-clause-asked
returns-in-Task-clause-asked g c =
    let waits = c.sessions_go_on.ensures.waits (plans_of (g.P.Planner.planned c.args.planner.now)) (connection c.args.self.now) (record { source = c.next.new.source; sink = c.next.new.sink; session = c.next.new.self }) c.in-Task.task c.in-Task.ensures.sees in
    (waits.pending, waits.few)

pub returns-in-Ended-Closed-clause-reads : goal.returns-in-Ended-Closed-clause-reads
returns-in-Ended-Closed-clause-reads g c = λ bytes entries p.
    c.sessions_go_on.ensures.ends _ bytes entries (connection c.args.self.now) _ _ tt closed_apart p.between (rw c.in-Ended-Closed.field-0-is at c.in-Ended-Closed.ensures.sees)

pub returns-in-Ended-Refused-clause-reads : goal.returns-in-Ended-Refused-clause-reads
returns-in-Ended-Refused-clause-reads g c = λ bytes entries p.
    c.sessions_go_on.ensures.ends _ bytes entries (connection c.args.self.now) _ _ tt (refused_apart _) p.between (rw c.in-Ended-Refused.field-0-is at c.in-Ended-Refused.ensures.sees)

pub returns-in-Ended-CutShort-clause-reads : goal.returns-in-Ended-CutShort-clause-reads
returns-in-Ended-CutShort-clause-reads g c = λ bytes entries p.
    c.sessions_go_on.ensures.ends _ bytes entries (connection c.args.self.now) _ _ tt cut_apart p.between (rw c.in-Ended-CutShort.field-0-is at c.in-Ended-CutShort.ensures.sees)

pub returns-in_ok-write_unavailable-in-Ended-NoMemory-clause-reads : goal.returns-in_ok-write_unavailable-in-Ended-NoMemory-clause-reads
returns-in_ok-write_unavailable-in-Ended-NoMemory-clause-reads g c = λ bytes entries p.
    c.sessions_go_on.ensures.runs_out _ bytes entries (connection c.args.self.now) (record { source = c.next.new.source; sink = c.next.new.sink; session = c.next.new.self }) (connection c.write_unavailable.new.self) p.between
    (rw c.in-Ended-NoMemory.field-0-is at c.in-Ended-NoMemory.ensures.sees) c.write_unavailable.ensures.source c.write_unavailable.ensures.session c.in_ok-write_unavailable-in-Ended-NoMemory.ensures.sends
