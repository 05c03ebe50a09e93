use Rattle.std.proofs.Common.{◌≡◌, Some, true, [], ◌∷◌, ap, sym, ◌∙◌, subst, arith}
use Rattle.history_lock.specs.Views.{blank, new_view, numbers_from}
use Rattle.history_lock.proofs.Opening.{fetches_as, opens_as, opened_as}
use Rattle.history_lock.proofs.lock.HistoryLock.new.Goals as goal

pub store-requires : goal.store-requires
store-requires g c =
    let e = c.in_ok-table.ensures in
    let words = e.0 in
    let key = c.in_ok-table.table.shared.key in
    let few = c.requires.passes.0 in
    let passes = ap (λ s. s.passes) e.5 in
    (e.2, omega (arith, words), fetches_as g.T.Keeps.stands g.T.Keeps.by g.T.Keeps.kind key _ _ c.in_ok-table.seat.me (omega (arith, passes, few)) e.3 (e.4 ∙ ap (λ s. (blank s, [])) (sym e.5)))

pub store-requires-2 : goal.store-requires-2
store-requires-2 g c =
    let e = c.in_ok-table.ensures in
    let words = e.0 in
    let key = c.in_ok-table.table.shared.key in
    let few = c.requires.passes.0 in
    let passes = ap (λ s. s.passes) e.5 in
    let s = c.store.ensures in
    let p = c.put_back.ensures in
    let was : c.in_ok-table.seat.me ≡ (blank key, []) = e.4 ∙ ap (λ s. (blank s, [])) (sym e.5) in
    let is = p.put ∙ ap (λ v. (v, (0, Some c.args.value) ∷ [])) (s.2.0 ∙ ap (λ m. record m.0 { holds = true }) was) in
    (p.same.0 ∙ (s.0 ∙ e.2), omega (arith, words), opens_as g.T.Keeps.stands g.T.Keeps.by g.T.Keeps.kind key _ _ c.put_back.new.seat.me c.args.value (omega (arith, passes, few)) (p.same.1 ∙ (s.1 ∙ e.3)) is (subst (λ s. g.T.Keeps.stands c.args.value s.first []) (sym e.5) c.requires.stands))

pub deal-requires-clause-all : goal.deal-requires-clause-all
deal-requires-clause-all g c =
    let e = c.in_ok-table.ensures in
    let key = c.in_ok-table.table.shared.key in
    let s = c.store.ensures in
    let p = c.put_back.ensures in
    let was : c.in_ok-table.seat.me ≡ (blank key, []) = e.4 ∙ ap (λ s. (blank s, [])) (sym e.5) in
    let is = p.put ∙ ap (λ v. (v, (0, Some c.args.value) ∷ [])) (s.2.0 ∙ ap (λ m. record m.0 { holds = true }) was) in
    let opened = opened_as g.T.Keeps.stands g.T.Keeps.by g.T.Keeps.kind key c.put_back.new.seat.me c.store-2.new.seat.me c.args.value is c.store-2.ensures.2 in
    (g.T.Keeps.kind c.args.value, opened ∙ ap (λ s. (new_view key (g.T.Keeps.kind c.args.value) (numbers_from 0 s.passes), [])) e.5)
