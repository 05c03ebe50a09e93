use Rattle.std.proofs.Common.{refl, sym, ap, subst, ◌∙◌, [], ◌∷◌, ◌++◌}
use Rattle.std.specs.Prelude.{All, IsSome, is_some}
use Rattle.std.proofs.lemmas.List.Elements.{All-append, All-cons, All-nil}
use Rattle.worker_stations.specs.declared.stations.Station.{Station}
use Rattle.socket_stations.proofs.stations.stations_of.Goals as goal

pub placing-preserved : goal.placing-preserved
placing-preserved g c =
    let gate : IsSome c.new.result.gate = ap (λ s. is_some s.gate) c.new.ensures in
    subst (All (λ (s : Station _ _ _ _). IsSome s.gate)) (sym c.in_ok-push.ensures.items)
    (All-append (λ (s : Station _ _ _ _). IsSome s.gate) c.placing.stations.items (c.new.result ∷ []) c.placing.invariant
    (All-cons (λ (s : Station _ _ _ _). IsSome s.gate) c.new.result [] gate (All-nil (λ (s : Station _ _ _ _). IsSome s.gate))))
