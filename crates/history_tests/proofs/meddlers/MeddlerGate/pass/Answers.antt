use Rattle.std.proofs.Common.{ap, sym, subst}
use Rattle.history_tests.proofs.meddlers.MeddlerGate.pass.Goals as goal

pub invariant_of-self : goal.invariant_of-self
invariant_of-self g c t fit =
    subst (λ k. (g.S.Means.meaning k).fit t) (sym (ap (λ o. o.kind) c.serve_worker-end.ensures.fixed)) (c.self.invariant t fit)
