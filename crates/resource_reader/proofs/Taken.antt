-- The first value for a number, and the others when it is taken.
use Rattle.std.proofs.Common.{◌≡◌, ◌≢◌, ◌<◌, length, get_or, ℕ, zero, suc, List, [], ◌∷◌, drop, Some, cond, true, false, refl, ap, ◌∙◌, arith}
use Rattle.std.specs.Prelude.{option_map, slice_get, slice_set, ◌==◌}
use Rattle.std.specs.Ordering.{nat_cmp, eq_by_cmp}
use Rattle.std.specs.Cmp.{unsigned_tied}
use Rattle.std.specs.FinMap.Entries.{find}
use Rattle.std.proofs.lemmas.Bool.Decides.{nat_tests}
use Rattle.resource_schema.specs.declared.values.AttrValue.{AttrValue}

tied : (x y : ℕ) → y ≡ x → eq_by_cmp nat_cmp x y ≡ true
tied x y e = let same : (x == y) ≡ true = grind (arith, nat_tests, e) in unsigned_tied x y ∙ same

apart : (x y : ℕ) → x ≢ y → eq_by_cmp nat_cmp x y ≡ false
apart x y e = let other : (x == y) ≡ false = grind (arith, nat_tests, e) in unsigned_tied x y ∙ other

pub find_at : (number i : ℕ) (es : List (ℕ × AttrValue)) → option_map (λ e. e.0) (slice_get es i) ≡ Some number → option_map (λ e. e.1) (slice_get es i) ≡ find nat_cmp number (drop i es)
find_at number zero [] own = cc own
find_at number (suc i) [] own = cc own
find_at number zero (e ∷ es) own = rw (tied number e.0 (cc own)) refl
find_at number (suc i) (e ∷ es) own = find_at number i es own

pub find_other : (n number i : ℕ) (v : AttrValue) (es : List (ℕ × AttrValue)) → option_map (λ e. e.0) (slice_get es i) ≡ Some number → n ≢ number → find nat_cmp n (slice_set es i (number, v)) ≡ find nat_cmp n es
find_other n number zero v [] own other = cc own
find_other n number (suc i) v [] own other = cc own
find_other n number zero v (e ∷ es) own other =
    let same : e.0 ≡ number = cc own in
    rw (same, apart n number other) refl
find_other n number (suc i) v (e ∷ es) own other = ap (cond (eq_by_cmp nat_cmp n e.0) (Some e.1)) (find_other n number i v es own other)

pub own_at : (number i : ℕ) (x : ℕ × AttrValue) (es : List (ℕ × AttrValue)) → i < length es → x ≡ get_or es i x → number ≡ x.0 → option_map (λ e. e.0) (slice_get es i) ≡ Some number
own_at number zero x [] inside is same = absurd (grind arith)
own_at number (suc i) x [] inside is same = absurd (grind arith)
own_at number zero x (e ∷ es) inside is same = cc (is, same)
own_at number (suc i) x (e ∷ es) inside is same = own_at number i x es (omega arith) is same
