use Rattle.std.proofs.Common.{◌≡◌, Some, ap, sym, ◌∙◌, subst, arith}
use Rattle.history_lock.proofs.Keeping.{gives_as}
use Rattle.history_lock.proofs.lock.HistoryLock.leave.Goals as goal

pub store-requires : goal.store-requires
store-requires g c =
    let words = c.self.invariant.0 in
    let p = c.put_back.ensures in
    let value = c.held.inside.value in
    let kind = subst (λ h. h.view.kind ≡ Some (g.T.Keeps.kind h.value)) (sym c.held.view_is) c.requires.kind in
    let stands = subst (λ h. g.T.Keeps.stands h.value h.view.first h.view.seen) (sym c.held.view_is) c.requires.stands in (
      p.same.0 ∙ (ap (λ h. h.lock) c.held.view_is ∙ (c.requires.lock ∙ sym (ap (λ l. l.name) c.self.view_is))),
      omega (arith, words),
      gives_as g.T.Keeps.stands g.T.Keeps.by g.T.Keeps.kind c.self.inside.table.shared.key _ _ c.put_back.new.seat.me value (ap (λ m. m.1) p.put) (ap (λ m. m.0.kind) p.put ∙ kind) (ap (λ m. m.0.holds) p.put ∙ c.held.invariant.2)
          (subst (λ m. g.T.Keeps.stands value m.0.first m.0.seen) (sym p.put) stands),
    )
