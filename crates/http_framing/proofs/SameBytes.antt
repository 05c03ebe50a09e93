-- The test of equal texts that computes.
use Rattle.std.proofs.Common.{◌≡◌, ◌↔◌, ℕ, Bool, true, false, IsTrue, List, [], ◌∷◌, refl, sym, ap, ◌∙◌, eqb, eq-eqb}
use Rattle.std.proofs.lemmas.Bool.{and_parts, and_from, false≢true, eqb-true}
use Rattle.http_model.specs.Framings.{same_bytes}

same_true : (xs ys : List ℕ) → same_bytes xs ys ≡ true → xs ≡ ys
same_true [] [] h = refl
same_true [] (y ∷ ys) h = absurd (false≢true h)
same_true (x ∷ xs) [] h = absurd (false≢true h)
same_true (x ∷ xs) (y ∷ ys) h =
    let both = and_parts (eqb x y) (same_bytes xs ys) h in
    joined (eqb-true x y both.0) (same_true xs ys both.1)
  where
    joined : x ≡ y → xs ≡ ys → x ∷ xs ≡ y ∷ ys
    joined p q = cc

same_refl : (xs : List ℕ) → same_bytes xs xs ≡ true
same_refl [] = refl
same_refl (x ∷ xs) = and_from (eqb x x) (same_bytes xs xs) (eq-eqb x x refl) (same_refl xs)

-- what decides whether two texts are equal is that test
pub decided : (r : Bool) (xs ys : List ℕ) → (IsTrue r ↔ (xs ≡ ys)) → r ≡ same_bytes xs ys
decided true xs ys h = sym (ap (same_bytes xs) (sym (h.0 refl)) ∙ same_refl xs)
decided false xs ys h = at (same_bytes xs ys) refl
  where
    at : (b : Bool) → same_bytes xs ys ≡ b → false ≡ same_bytes xs ys
    at true e = absurd (false≢true (h.1 (same_true xs ys e)))
    at false e = sym e
