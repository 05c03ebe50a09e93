-- Lists in a strict order: those with the same items are one.
use Rattle.std.proofs.Common.{◌≡◌, ◌≤◌, List, [], ◌∷◌, true, refl, sym, ap, subst, ◌∙◌, inl, inr, length, arith}
use Rattle.std.specs.declared.cmp.Ordering.{Ordering}
use Rattle.std.specs.declared.cmp.Ordering.TheVariants.{Less, Equal, Greater}
use Rattle.std.specs.Ordering.{is_lt, is_eq, ordering_reverse}
use Rattle.std.specs.Cmp.{IsTotalOrder, tied_itself}
use Rattle.std.specs.List.{AllByRecursion}
use Rattle.world_cells.specs.Lists.{IsIn}
use Rattle.store_model.specs.Laws.{Pairwise}

-- ---- lists in a strict order

module _ {A : Type 0} (R : A → A → Type 0) (never : (a : A) → R a a → ⊥) (once : (a b : A) → R a b → R b a → ⊥) where
  of_all : (x : A) (xs : List A) (y : A) → AllByRecursion (R x) xs → IsIn xs y → R x y
  of_all x [] y h among = absurd among
  of_all x (z ∷ xs) y h (inl is) = subst (R x) is h.0
  of_all x (z ∷ xs) y h (inr among) = of_all x xs y h.1 among

  -- a list in order whose items are all among another's is no longer
  pub no_longer : (a b : List A) → Pairwise R a → Pairwise R b → ((x : A) → IsIn b x → IsIn a x) → length b ≤ length a
  no_longer a [] p q within = omega arith
  no_longer [] (y ∷ b) p q within = absurd (within y (inl refl))
  no_longer (x ∷ a) (y ∷ b) p q within = cases (within y (inl refl)) (λ c r sub. no_longer a c p.1 r sub)
    where
      cases : IsIn (x ∷ a) y → ((c : List A) → Pairwise R c → ((z : A) → IsIn c z → IsIn a z) → length c ≤ length a) → length (y ∷ b) ≤ length (x ∷ a)
      cases (inl same) rest = let shorter : length b ≤ length a = rest b q.1 (λ z among. later z among (within z (inr among))) in omega arith
        where
          later : (z : A) → IsIn b z → IsIn (x ∷ a) z → IsIn a z
          later z among (inl is) = absurd (never x (subst (λ u. R u x) (sym same) (subst (R y) (sym is) (of_all y b z q.0 among))))
          later z among (inr there) = there
      cases (inr there) rest = let shorter : length (y ∷ b) ≤ length a = rest (y ∷ b) q (λ z among. later z among (within z among)) in omega arith
        where
          later : (z : A) → IsIn (y ∷ b) z → IsIn (x ∷ a) z → IsIn a z
          later z (inl is) found = subst (IsIn a) is there
          later z (inr among) (inl is) = absurd (once x y (of_all x a y p.0 there) (subst (R y) (sym is) (of_all y b z q.0 among)))
          later z (inr among) (inr found) = found

  -- two lists in order with the same items are one
  pub same_items : (a b : List A) → Pairwise R a → Pairwise R b → ((x : A) → IsIn a x → IsIn b x) → ((x : A) → IsIn b x → IsIn a x) → a ≡ b
  same_items [] [] p q f g = refl
  same_items [] (y ∷ b) p q f g = absurd (g y (inl refl))
  same_items (x ∷ a) [] p q f g = absurd (f x (inl refl))
  same_items (x ∷ a) (y ∷ b) p q f g = cases (f x (inl refl)) (g y (inl refl)) (same_items a b p.1 q.1)
    where
      tails : x ≡ y → (((z : A) → IsIn a z → IsIn b z) → ((z : A) → IsIn b z → IsIn a z) → a ≡ b) → (x ∷ a) ≡ (y ∷ b)
      tails same rest = let e : a ≡ b = rest (λ z among. left z among (f z (inr among))) (λ z among. right z among (g z (inr among))) in λ i. same i ∷ e i
        where
          left : (z : A) → IsIn a z → IsIn (y ∷ b) z → IsIn b z
          left z among (inl is) = absurd (never x (subst (R x) (sym (same ∙ is)) (of_all x a z p.0 among)))
          left z among (inr there) = there

          right : (z : A) → IsIn b z → IsIn (x ∷ a) z → IsIn a z
          right z among (inl is) = absurd (never y (subst (R y) (sym is ∙ same) (of_all y b z q.0 among)))
          right z among (inr there) = there

      cases : IsIn (y ∷ b) x → IsIn (x ∷ a) y → (((z : A) → IsIn a z → IsIn b z) → ((z : A) → IsIn b z → IsIn a z) → a ≡ b) → (x ∷ a) ≡ (y ∷ b)
      cases (inl same) other rest = tails (sym same) rest
      cases (inr among) (inl same) rest = tails same rest
      cases (inr among) (inr there) rest = absurd (once x y (of_all x a y p.0 there) (of_all y b x q.0 among))

-- ---- orders that are strict

not_equal_less : (o : Ordering) → is_eq o ≡ true → is_lt o ≡ true → ⊥
not_equal_less Less e h = cc e
not_equal_less Equal e h = cc h
not_equal_less Greater e h = cc e

not_both_less : (o : Ordering) → is_lt o ≡ true → is_lt (ordering_reverse o) ≡ true → ⊥
not_both_less Less e h = cc h
not_both_less Equal e h = cc e
not_both_less Greater e h = cc e

module _ {K : Type 0} (cmp : K → K → Ordering) (total : IsTotalOrder cmp) where
  pub never_itself : (k : K) → is_lt (cmp k k) ≡ true → ⊥
  never_itself k h = not_equal_less (cmp k k) (ap is_eq (tied_itself total k)) h

  pub one_way : (k j : K) → is_lt (cmp k j) ≡ true → is_lt (cmp j k) ≡ true → ⊥
  one_way k j h e = not_both_less (cmp k j) h (ap is_lt (sym (total.antisymm j k)) ∙ e)
