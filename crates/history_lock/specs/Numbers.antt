-- The numbers of two passes, one list behind the other.
use Rattle.std.specs.Prelude.{◌≡◌, ℕ, Bool, true, false, ◌⊎◌, ◌==◌, ◌||◌, List, [], ◌∷◌, ◌++◌, refl}
use Rattle.std.proofs.Common.{true≢false, sym, ap, ◌∙◌, inl, inr}
use Rattle.ident_rules.specs.Owned.{is_among}

or_assoc : (a b c : Bool) → (a || (b || c)) ≡ ((a || b) || c)
or_assoc true b c = refl
or_assoc false b c = refl

pub among_append : (n : ℕ) (ns ms : List ℕ) → is_among n (ns ++ ms) ≡ (is_among n ns || is_among n ms)
among_append n [] ms = refl
among_append n (x ∷ xs) ms = ap (λ b. (n == x) || b) (among_append n xs ms) ∙ or_assoc (n == x) (is_among n xs) (is_among n ms)

or_cases : (a b : Bool) → (a || b) ≡ true → (a ≡ true) ⊎ (b ≡ true)
or_cases true b e = inl refl
or_cases false b e = inr e

or_left : (a b : Bool) → a ≡ true → (a || b) ≡ true
or_left true b e = refl
or_left false b e = absurd (true≢false (sym e))

or_right : (a b : Bool) → b ≡ true → (a || b) ≡ true
or_right true b e = refl
or_right false b e = e

pub among_either : (n : ℕ) (ns ms : List ℕ) → is_among n (ns ++ ms) ≡ true → (is_among n ns ≡ true) ⊎ (is_among n ms ≡ true)
among_either n ns ms e = or_cases (is_among n ns) (is_among n ms) (sym (among_append n ns ms) ∙ e)

pub among_left : (n : ℕ) (ns ms : List ℕ) → is_among n ns ≡ true → is_among n (ns ++ ms) ≡ true
among_left n ns ms e = among_append n ns ms ∙ or_left (is_among n ns) (is_among n ms) e

pub among_right : (n : ℕ) (ns ms : List ℕ) → is_among n ms ≡ true → is_among n (ns ++ ms) ≡ true
among_right n ns ms e = among_append n ns ms ∙ or_right (is_among n ns) (is_among n ms) e
