use Rattle.std.proofs.Common.{ap, sym, ◌∙◌, arith}
use Rattle.history_lock.specs.Views.{is_idle}
use Rattle.history_lock.proofs.Keeping.{takes_as}
use Rattle.history_lock.proofs.lock.HistoryLock.enter.Goals as goal

pub compare_exchange-found-requires : goal.compare_exchange-found-requires
compare_exchange-found-requires g c =
    let i = c.loop.invariant in
    let words = c.self.invariant.0 in
    let idle = ap (λ m. is_idle m.0) i.1 ∙ ap (λ p. is_idle p.view) (sym c.pass.view_is) ∙ c.pass.invariant.2 in
    (i.0 ∙ (c.requires.lock ∙ sym (ap (λ l. l.name) c.self.view_is)), omega (arith, words), takes_as g.T.Keeps.stands g.T.Keeps.by g.T.Keeps.kind c.self.inside.table.shared.key _ _ c.loop.seat.me idle (ap (λ m. m.1) i.1))
