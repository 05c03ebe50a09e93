-- The passes that are dealt out, one number at a time.
use Rattle.std.proofs.Common.{◌≡◌, ℕ, zero, suc, ◌+◌, ◌-◌, ◌≤◌, List, [], ◌∷◌, ◌++◌, true, refl, sym, ap, ◌∙◌, subst, arith}
use Rattle.std.specs.Prelude.{All}
use Rattle.std.proofs.lemmas.List.Elements.{All-cons, All-nil}
use Rattle.ident_rules.specs.Owned.{is_among}
use Rattle.atomic_table.specs.Seated.{TableId}
use Rattle.history_lock.specs.declared.rule.Knows.{Knows}
use Rattle.history_lock.specs.declared.rule.Start.{Start}
use Rattle.history_lock.specs.Views.{is_idle, numbers_from, other_numbers, first_number, new_view, first_of, rest_of}
use Rattle.history_lock.specs.Making.{new_pass, passes_from, one_more_pass}
use Rattle.history_lock.proofs.Opening.{among_first}

pub others_from : (i count : ℕ) → 1 ≤ count → other_numbers (numbers_from i count) ≡ numbers_from (i + 1) (count - 1)
others_from i zero few = absurd (omega (arith, few))
others_from i (suc count) few = ap (λ (x : ℕ). numbers_from x count) (omega arith) ∙ ap (λ (n : ℕ). numbers_from (i + 1) n) (omega arith)

pub first_from : (i count : ℕ) → 1 ≤ count → first_number (numbers_from i count) ≡ i ∷ []
first_from i zero few = absurd (omega (arith, few))
first_from i (suc count) few = refl

pub one_from : (i count : ℕ) → count ≡ 1 → numbers_from i count ≡ i ∷ []
one_from i count e = ap (numbers_from i) e

module _ {E K : Type 0} (name : TableId) (start : Start) (k : K) where
  pub one_more_at : (n : ℕ) → passes_from {E = E} name start k 0 n ++ new_pass name start k n ∷ [] ≡ passes_from name start k 0 (n + 1)
  one_more_at n =
      let same : n ≡ 0 + n = omega arith in
      let next : suc n ≡ n + 1 = omega arith in
      subst (λ (m : ℕ). passes_from {E = E} name start k 0 n ++ new_pass name start k m ∷ [] ≡ passes_from name start k 0 (n + 1)) (sym same)
      (subst (λ (m : ℕ). passes_from {E = E} name start k 0 n ++ new_pass name start k (0 + n) ∷ [] ≡ passes_from name start k 0 m) next (sym (one_more_pass name start k 0 n)))

  -- a pass of one number is as every pass is
  pub pass_of_one : (i : ℕ) (v : Knows E K) → v ≡ new_view start k (i ∷ []) → (is_among i v.numbers ≡ true) × All (λ n. i ≤ n) v.numbers × (is_idle v ≡ true)
  pass_of_one i v is =
      subst (λ (u : Knows E K). (is_among i u.numbers ≡ true) × All (λ n. i ≤ n) u.numbers × (is_idle u ≡ true)) (sym is)
      (among_first i [], All-cons (λ n. i ≤ n) i [] (omega arith) (All-nil (λ n. i ≤ n)), refl)

  -- the first number is parted from the others
  pub first_view : (v : Knows E K) (i count : ℕ) → 1 ≤ count → v ≡ new_view start k (numbers_from i count) → first_of v ≡ new_view start k (i ∷ [])
  first_view v i count few is = ap (λ (u : Knows E K). first_of u) is ∙ ap (λ (l : List ℕ). new_view start k l) (first_from i count few)

  pub rest_view : (v : Knows E K) (i count : ℕ) → 1 ≤ count → v ≡ new_view start k (numbers_from i count) → rest_of v ≡ new_view start k (numbers_from (i + 1) (count - 1))
  rest_view v i count few is = ap (λ (u : Knows E K). rest_of u) is ∙ ap (λ (l : List ℕ). new_view start k l) (others_from i count few)

  -- what contracts see of the pass of a seat
  pub pass_seen : (lock : TableId) (view : Knows E K) (i : ℕ) → lock ≡ name → view ≡ new_view start k (i ∷ []) → record { lock = lock; view = view; number = i } ≡ new_pass {E = E} name start k i
  pass_seen lock view i p q = λ j. record { lock = p j; view = q j; number = i }
