use Rattle.std.proofs.Common.{◌≡◌, ◌≤◌, true, ap, sym, ◌∙◌, subst, arith}
use Rattle.history_lock.proofs.Joining.{joins_as, pass_of_both, settles_as}
use Rattle.history_lock.proofs.Keeping.{idle_parts}
use Rattle.std.specs.Prelude.{All}
use Rattle.ident_rules.specs.Owned.{is_among}
use Rattle.history_lock.proofs.lock.HistoryLock.join.Goals as goal

pub join_seat-requires : goal.join_seat-requires
join_seat-requires g c =
    let words = c.self.invariant.0 in
    let name = sym (ap (λ l. l.name) c.self.view_is) in (
      ap (λ p. p.lock) c.one.view_is ∙ (c.requires.locks.0 ∙ name),
      ap (λ p. p.lock) c.other.view_is ∙ (c.requires.locks.1 ∙ name),
      c.other.invariant.3,
      omega (arith, words),
      joins_as g.T.Keeps.stands g.T.Keeps.by g.T.Keeps.kind c.self.inside.table.shared.key c.one.inside.seat.id c.one.inside.seat.me.0 c.other.inside.seat.id c.other.inside.seat.me.0 c.one.invariant.2 c.other.invariant.2,
    )

pub load-requires : goal.load-requires
load-requires g c =
    let words = c.self.invariant.0 in
    let name = sym (ap (λ l. l.name) c.self.view_is) in
    let joined = c.join_seat.ensures in
    let kind = (idle_parts g.T.Keeps.stands g.T.Keeps.by g.T.Keeps.kind c.one.inside.seat.me.0 c.one.invariant.2).1 in (
      joined.0 ∙ (ap (λ p. p.lock) c.one.view_is ∙ (c.requires.locks.0 ∙ name)),
      omega (arith, words),
      settles_as g.T.Keeps.stands g.T.Keeps.by g.T.Keeps.kind c.self.inside.table.shared.key _ c.join_seat.new.seat.id c.join_seat.new.seat.me kind.0 (ap (λ m. m.0.kind) joined.2 ∙ kind.1),
    )

pub invariant_of-result : goal.invariant_of-result
invariant_of-result g c =
    let joined = c.join_seat.ensures.2 in
    let settled = c.load.ensures.2 in
    let a = c.one.inside.number in
    let b = c.other.inside.number in
    let is = settled.0 ∙ ap (λ m. m.0) joined in
    let both = pass_of_both g.T.Keeps.stands g.T.Keeps.by g.T.Keeps.kind c.one.inside.seat.me.0 c.other.inside.seat.me.0 c.load.new.seat.me.0 a b is (c.one.invariant.0, c.one.invariant.1) (c.other.invariant.0, c.other.invariant.1) c.one.invariant.2 in (
      subst (λ n. is_among n c.load.new.seat.me.0.numbers ≡ true) (sym c.min.ensures) both.0,
      subst (λ n. All (λ m. n ≤ m) c.load.new.seat.me.0.numbers) (sym c.min.ensures) both.1,
      both.2,
      settled.1 ∙ (ap (λ m. m.1) joined ∙ c.one.invariant.3),
    )
