use Rattle.std.proofs.Common.{◌≡◌, ℕ, List, length, Some}
use Rattle.std.specs.Prelude.{slice_get}
use Rattle.replay_runs.specs.declared.streams.Stream.{Stream}
use Rattle.replay_runs.specs.Streams.{IsNew}
use Rattle.replay_runs.proofs.reports.make_streams.Given as goal

abbrev pub invariant-making : goal.invariant-making
invariant-making l = record {
  size : length l.streams.items ≡ l.bytes-index;
  new : (k : ℕ) (bytes : List ℕ) (s : Stream) → slice_get l.inputs k ≡ Some bytes → slice_get l.streams.items k ≡ Some s → IsNew bytes s;
}
