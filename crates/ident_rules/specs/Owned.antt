-- The entries of a list that some numbers own.
use Rattle.std.specs.Prelude.{◌≡◌, ℕ, Bool, true, false, ◌==◌, ◌||◌, if◌then◌else◌, List, [], ◌∷◌, ◌++◌, refl}
use Rattle.std.proofs.Common.{ap, ◌∙◌}

-- the number is one of these
abbrev pub is_among : ℕ → List ℕ → Bool
is_among n [] = false
is_among n (x ∷ xs) = (n == x) || is_among n xs

-- the entries whose owner is one of these, in order
abbrev pub entries_by : {E : Type 0} → (E → ℕ) → List ℕ → List E → List E
entries_by owner numbers [] = []
entries_by owner numbers (e ∷ entries) = if is_among (owner e) numbers then e ∷ entries_by owner numbers entries else entries_by owner numbers entries

module _ {E : Type 0} (owner : E → ℕ) (numbers : List ℕ) where
  behind_one : (b : Bool) (e : E) (own ys : List E) → (if b then e ∷ (own ++ ys) else own ++ ys) ≡ (if b then e ∷ own else own) ++ ys
  behind_one true e own ys = refl
  behind_one false e own ys = refl

  -- of two lists, one behind the other
  pub entries_by-append : (xs ys : List E) → entries_by owner numbers (xs ++ ys) ≡ entries_by owner numbers xs ++ entries_by owner numbers ys
  entries_by-append [] ys = refl
  entries_by-append (e ∷ xs) ys =
      ap (λ own. if is_among (owner e) numbers then e ∷ own else own) (entries_by-append xs ys)
      ∙ behind_one (is_among (owner e) numbers) e (entries_by owner numbers xs) (entries_by owner numbers ys)
