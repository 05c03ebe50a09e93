use Rattle.std.proofs.Common.{◌≡◌, Some, [], ◌∷◌, ◌++◌, ap, sym, ◌∙◌, subst, arith}
use Rattle.history_lock.specs.Views.{more_view}
use Rattle.history_lock.proofs.Keeping.{gives_as}
use Rattle.history_lock.proofs.lock.HistoryLock.leave_with.Goals as goal

pub raise-requires-clause-open : goal.raise-requires-clause-open
raise-requires-clause-open g c = (g.T.Keeps.kind c.args.held.value, ap (λ m. m.0.kind) c.put_back.ensures.put ∙ (ap (λ h. h.view.kind) c.held.view_is ∙ c.requires.kind))

pub store-requires : goal.store-requires
store-requires g c =
    let words = c.self.invariant.0 in
    let p = c.put_back.ensures in
    let r = c.raise.ensures in
    let value = c.held.inside.value in
    let entry = c.args.entry.now in
    let kind = subst (λ h. h.view.kind ≡ Some (g.T.Keeps.kind h.value)) (sym c.held.view_is) c.requires.kind in
    let stands = subst (λ h. g.T.Keeps.stands h.value h.view.first (h.view.seen ++ entry ∷ [])) (sym c.held.view_is) c.requires.stands in
    let is = r.more ∙ ap (λ m. (more_view m.0 (entry ∷ []), m.1)) p.put in (
      r.same.0 ∙ (p.same.0 ∙ (ap (λ h. h.lock) c.held.view_is ∙ (c.requires.lock ∙ sym (ap (λ l. l.name) c.self.view_is)))),
      omega (arith, words),
      gives_as g.T.Keeps.stands g.T.Keeps.by g.T.Keeps.kind c.self.inside.table.shared.key _ _ c.raise.new.seat.me value (ap (λ m. m.1) is) (ap (λ m. m.0.kind) is ∙ kind) (ap (λ m. m.0.holds) is ∙ c.held.invariant.2)
          (subst (λ m. g.T.Keeps.stands value m.0.first m.0.seen) (sym is) stands),
    )
