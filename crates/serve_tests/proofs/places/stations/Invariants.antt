use Rattle.std.specs.Prelude.{All, IsSome}
use Rattle.serve_tests.proofs.places.stations.Given as goal

abbrev pub invariant-loop-client : goal.invariant-loop-client
invariant-loop-client l = All (λ s. IsSome s.gate) l.stations.items
