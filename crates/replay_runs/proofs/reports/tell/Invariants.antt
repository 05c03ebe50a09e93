use Rattle.std.proofs.Common.{◌≡◌, map, take}
use Rattle.std.specs.Prelude.{unwrap_or}
use Rattle.http_messages.specs.declared.ends.SessionEnd.TheVariants as session_end
use Rattle.replay_runs.specs.declared.streams.Stream.{Stream}
use Rattle.replay_runs.proofs.reports.tell.Given as goal

abbrev pub invariant-telling : goal.invariant-telling
invariant-telling l = record {
  ends : l.ends.items ≡ map (λ (s : Stream). unwrap_or s.end session_end.NoMemory) (take l.stream-index l.streams);
  refused : l.refused.items ≡ map (λ (s : Stream). s.refused) (take l.stream-index l.streams);
  replies : l.replies.items ≡ map (λ (s : Stream). s.line.sink.written) (take l.stream-index l.streams);
}
