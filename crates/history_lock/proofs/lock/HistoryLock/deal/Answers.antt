use Rattle.std.proofs.Common.{◌≡◌, ◌+◌, ◌-◌, ℕ, [], ◌∷◌, ◌++◌, ap, sym, ◌∙◌, subst, arith}
use Rattle.history_lock.specs.Views.{new_view, numbers_from}
use Rattle.history_lock.specs.Making.{new_pass, passes_from}
use Rattle.history_lock.proofs.Parting.{splits_as}
use Rattle.history_lock.proofs.Dealing.{one_more_at, one_from, pass_of_one, first_view, rest_view, pass_seen}
use Rattle.history_lock.proofs.lock.HistoryLock.deal.Goals as goal

pub split_seat-own-requires : goal.split_seat-own-requires
split_seat-own-requires g c =
    let words = c.self.invariant.0 in
    let few = c.loop-number-test.true in
    let all = c.requires.all in
    let number = c.loop-number.number in
    let view = ap (λ m. m.0) (c.loop-number.invariant.1 all.0 all.1).1 in
    let start = ap (λ l. l.start) c.self.view_is in
    let here = subst (λ s. c.loop-number.seat.me.0 ≡ new_view s all.0 (numbers_from number (c.args.passes - number))) (sym start) view in (
      c.loop-number.invariant.0 ∙ sym (ap (λ l. l.name) c.self.view_is),
      omega (arith, words),
      splits_as g.T.Keeps.stands g.T.Keeps.by g.T.Keeps.kind c.self.inside.table.shared.key c.loop-number.seat.id all.0 number (c.args.passes - number) c.loop-number.seat.me.0 (omega (arith, few)) here,
    )

pub invariant_of-push : goal.invariant_of-push
invariant_of-push g c =
    let all = c.requires.all in
    let number = c.loop-number.number in
    let few = c.loop-number-test.true in
    let view = ap (λ m. m.0) (c.loop-number.invariant.1 all.0 all.1).1 in
    let split = c.split_seat-own.ensures in
    let own = ap (λ m. m.0) split.4 ∙ first_view c.args.self.now.name c.args.self.now.start all.0 _ number (c.args.passes - number) (omega (arith, few)) view in
    let ok = pass_of_one c.args.self.now.name c.args.self.now.start all.0 number _ own in
    (ok.0, ok.1, ok.2, ap (λ m. m.1) split.4)

pub loop-number-preserved : goal.loop-number-preserved
loop-number-preserved g c =
    let number = c.loop-number.number in
    let few = c.loop-number-test.true in
    let start = c.args.self.now.start in
    let name = c.args.self.now.name in
    let split = c.split_seat-own.ensures in (
      split.0 ∙ c.loop-number.invariant.0,
      λ k is.
          let before = c.loop-number.invariant.1 k is in
          let view = ap (λ m. m.0) before.1 in
          let own = ap (λ m. m.0) split.4 ∙ first_view name start k _ number (c.args.passes - number) (omega (arith, few)) view in
          let rest = rest_view name start k _ number (c.args.passes - number) (omega (arith, few)) view in
          let pass = pass_seen name start k _ _ number (split.3 ∙ c.loop-number.invariant.0) own in
          let count : c.args.passes - number - 1 ≡ c.args.passes - (number + 1) = omega arith in (
            c.in_ok-push.ensures.items ∙ (λ i. before.0 i ++ pass i ∷ []) ∙ one_more_at name start k number,
            split.2 ∙ (λ i. (rest i, ap (λ m. m.1) before.1 i)) ∙ ap (λ n. (new_view start k (numbers_from (number + 1) n), [])) count,
          ),
    )

pub invariant_of-push-2 : goal.invariant_of-push-2
invariant_of-push-2 g c =
    let all = c.requires.all in
    let some = c.requires.some in
    let number = c.loop-number.number in
    let end = c.loop-number.auto.number-end in
    let over = c.loop-number-test.false in
    let me = (c.loop-number.invariant.1 all.0 all.1).1 in
    let at : number ≡ c.args.passes - 1 = omega (arith, end, over) in
    let one = ap (λ m. m.0) me ∙ ap (λ l. new_view c.args.self.now.start all.0 l) (one_from number (c.args.passes - number) (omega (arith, at, some)) ∙ ap (λ n. n ∷ []) at) in
    let ok = pass_of_one c.args.self.now.name c.args.self.now.start all.0 (c.args.passes - 1) _ one in
    (ok.0, ok.1, ok.2, ap (λ m. m.1) me)

pub returns : goal.returns
returns g c = λ k is.
    let name = c.args.self.now.name in
    let start = c.args.self.now.start in
    let some = c.requires.some in
    let number = c.loop-number.number in
    let end = c.loop-number.auto.number-end in
    let over = c.loop-number-test.false in
    let before = c.loop-number.invariant.1 k is in
    let at : number ≡ c.args.passes - 1 = omega (arith, end, over) in
    let one = ap (λ m. m.0) before.1 ∙ ap (λ l. new_view start k l) (one_from number (c.args.passes - number) (omega (arith, at, some)) ∙ ap (λ n. n ∷ []) at) in
    let pass = pass_seen name start k _ _ (c.args.passes - 1) c.loop-number.invariant.0 one in
    let whole : c.args.passes - 1 + 1 ≡ c.args.passes = omega (arith, some) in
    c.in_ok-push-2.ensures.items
    ∙ (λ i. before.0 i ++ pass i ∷ [])
    ∙ ap (λ (n : ℕ). passes_from name start k 0 n ++ new_pass name start k (c.args.passes - 1) ∷ []) at
    ∙ one_more_at name start k (c.args.passes - 1)
    ∙ ap (λ (n : ℕ). passes_from name start k 0 n) whole
