-- The first part of a text.
use Rattle.std.proofs.Common.{◌≡◌, ℕ, ◌+◌, ◌<◌, ◌==◌, Bool, true, false, not, List, [], ◌∷◌, length, Option, Some, None, refl, sym, ap, ◌∙◌, cond, arith}
use Rattle.std.specs.Borrow.{Bor}
use Rattle.std.specs.Prelude.{MatchOption}
use Rattle.std.specs.List.{slice_split, onto_first, position_or_len, before_first, after_first}
use Rattle.std.proofs.lemmas.List.Splits.{slice_split_first}
use Rattle.request_model.specs.Words.{parts_at}

module _ (p : ℕ → Bool) where
  uncut_by : (x : ℕ) (xs : List ℕ) (b : Bool) → (position_or_len p xs ≡ length xs → slice_split p xs ≡ xs ∷ [])
      → cond (not b) (1 + position_or_len p xs) 0 ≡ length (x ∷ xs) → cond b ([] ∷ slice_split p xs) (onto_first x (slice_split p xs)) ≡ (x ∷ xs) ∷ []
  uncut_by x xs true more e = absurd (omega (arith, e))
  uncut_by x xs false more e = ap (onto_first x) (more (omega (arith, e)))

  -- a text without the separator is one part
  uncut : (xs : List ℕ) → position_or_len p xs ≡ length xs → slice_split p xs ≡ xs ∷ []
  uncut [] e = refl
  uncut (x ∷ xs) e = uncut_by x xs (p x) (uncut xs) e

-- what stands before the first separator and behind it
abbrev pub IsCut : ℕ → List ℕ → Option (Bor (List ℕ) × Bor (List ℕ)) → Type 0
IsCut c text r =
    MatchOption r (position_or_len (λ b. b == c) text ≡ length text)
    (λ x. (position_or_len (λ b. b == c) text < length text) × (x.0.now ≡ before_first (λ b. b == c) text) × (x.1.now ≡ after_first (λ b. b == c) text))

pub cut-parts : (c : ℕ) (text : List ℕ) (r : Option (Bor (List ℕ) × Bor (List ℕ))) → IsCut c text r
    → MatchOption r (parts_at c text ≡ text ∷ []) (λ x. parts_at c text ≡ x.0.now ∷ parts_at c x.1.now)
cut-parts c text None e = uncut (λ b. b == c) text e
cut-parts c text (Some x) h =
    slice_split_first (λ b. b == c) text 0 h.0
    ∙ ap (λ q. q ∷ slice_split (λ b. b == c) (after_first (λ b. b == c) text)) (sym h.1)
    ∙ ap (λ q. x.0.now ∷ slice_split (λ b. b == c) q) (sym h.2)
