-- The views of all passes, where one or two of them change.
use Rattle.std.proofs.Common.{◌≡◌, ◌≢◌, ℕ, zero, suc, List, [], ◌∷◌, set, Some, None, true, true≢false, refl, sym, ap, ◌∙◌, subst, inl, inr, ⊎_elim}
use mathlib.Core.Option.{some, some-injective, some-ne-none}
use lib.ListN.{get_elem?}
use Rattle.atomic_table.proofs.Lists.{at_set}
use Rattle.ident_rules.specs.Owned.{is_among}
use Rattle.history_lock.specs.declared.rule.Knows.{Knows}
use Rattle.history_lock.specs.declared.rule.Start.{Start}
use Rattle.history_lock.specs.Rule.{IsRight, Fits, AreApart}

pub here : {A : Type 0} (l : List A) (i : ℕ) (a b : A) → get_elem? l i ≡ some a → get_elem? (set l i b) i ≡ some b
here [] i a b e = absurd (some-ne-none a (sym e))
here (x ∷ xs) zero a b e = refl
here (x ∷ xs) (suc i) a b e = here xs i a b e

pub same_at : {A : Type 0} (l : List A) (i : ℕ) (a b : A) → get_elem? l i ≡ some a → get_elem? l i ≡ some b → a ≡ b
same_at l i a b p q = some-injective a b (sym p ∙ q)

pub some_is : {A : Type 0} (a b : A) → Some a ≡ Some b → a ≡ b
some_is a b e = cc e

pub none_is_not : {A : Type 0} (a : A) → None ≡ Some a → ⊥
none_is_not a e = cc e

module _ {E K : Type 0} where
  -- what holds of the others, and of the new view, holds of all
  pub all_set : (P : ℕ → Knows E K → Type 0) (views : List (Knows E K)) (id : ℕ) (w : Knows E K)
      → ((j : ℕ) (u : Knows E K) → j ≢ id → get_elem? views j ≡ some u → P j u) → P id w → (j : ℕ) (u : Knows E K) → get_elem? (set views id w) j ≡ some u → P j u
  all_set P views id w others mine j u e =
      ⊎_elim
      (λ (x : (j ≡ id) × (w ≡ u)). subst (λ (y : ℕ × Knows E K). P y.0 y.1) (λ i. (sym x.0 i, x.1 i)) mine)
      (λ (x : (j ≢ id) × (get_elem? views j ≡ some u)). others j u x.0 x.1)
      (at_set views id j w u e)

  -- the view that stood there before has the same numbers
  before : (views : List (Knows E K)) (id : ℕ) (v w : Knows E K) → get_elem? views id ≡ some v → v.numbers ≡ w.numbers
      → (j : ℕ) (u : Knows E K) → get_elem? (set views id w) j ≡ some u → (x : Knows E K) × (get_elem? views j ≡ some x) × (x.numbers ≡ u.numbers)
  before views id v w at same =
      all_set (λ j u. (x : Knows E K) × (get_elem? views j ≡ some x) × (x.numbers ≡ u.numbers)) views id w (λ j u ne e. (u, e, refl)) (v, at, same)

  pub apart_set : (views : List (Knows E K)) (id : ℕ) (v w : Knows E K) → get_elem? views id ≡ some v → v.numbers ≡ w.numbers → AreApart views → AreApart (set views id w)
  apart_set views id v w at same apart i j a b n p q x y =
      let a' = before views id v w at same i a p in
      let b' = before views id v w at same j b q in
      apart i j a'.0 b'.0 n a'.1 b'.1 (ap (is_among n) a'.2 ∙ x) (ap (is_among n) b'.2 ∙ y)

  -- a view with a kind is right
  pub right_of : (by : E → ℕ) (start : Start) (k : K) (log : List E) (v : Knows E K) (k' : K) → v.kind ≡ Some k' → Fits by start k log v → IsRight by start k log v
  right_of by start k log v k' is (inl e) = absurd (none_is_not k' (sym (ap (λ (x : Knows E K). x.kind) e) ∙ is))
  right_of by start k log v k' is (inr r) = r

  -- a view that holds the lock is right
  pub right_holder : (by : E → ℕ) (start : Start) (k : K) (log : List E) (v : Knows E K) → v.holds ≡ true → Fits by start k log v → IsRight by start k log v
  right_holder by start k log v holding (inl e) = absurd (true≢false (sym holding ∙ ap (λ (x : Knows E K). x.holds) e))
  right_holder by start k log v holding (inr r) = r
