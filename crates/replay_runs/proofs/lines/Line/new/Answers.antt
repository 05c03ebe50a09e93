use Rattle.std.proofs.Common.{ap, ◌∙◌}
use Rattle.replay_runs.proofs.lines.Line.new.Goals as goal

pub returns : goal.returns
returns c = λ plans. record {
  between = c.sessions_go_on.ensures.begins plans c.args.bytes.now _ (ap (λ s. s.taken) c.new-source.ensures) (ap (λ s. s.left) c.new-source.ensures ∙ c.in_ok-from_slice.ensures.items)
      (ap (λ s. s.written) c.new-sink.ensures) c.in_ok-session.ensures;
  free = ap (λ s. s.pending) c.in_ok-session.ensures;
}
