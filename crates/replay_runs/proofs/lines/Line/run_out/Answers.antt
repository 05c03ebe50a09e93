use Rattle.replay_runs.specs.Lines.{connection}
use Rattle.replay_runs.proofs.lines.Line.run_out.Goals as goal

pub returns : goal.returns
returns c = λ plans bytes entries t p.
    c.sessions_go_on.ensures.task_runs_out plans bytes entries t (connection c.args.self.now) (connection c.write_unavailable.new.self) p c.write_unavailable.ensures.source c.in_ok-write_unavailable.ensures.sends
