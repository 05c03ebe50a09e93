use Rattle.std.specs.Prelude.{All, IsSome}
use Rattle.worker_stations.specs.declared.stations.Station.{Station}
use Rattle.socket_stations.proofs.stations.stations_of.Given as goal

abbrev pub invariant-placing : goal.invariant-placing
invariant-placing g l = All (λ (s : Station _ _ _ _). IsSome s.gate) l.stations.items
