-- The number that digits write, cut at a limit as it is read.
use Rattle.std.proofs.Common.{◌≡◌, ◌⊎◌, ℕ, suc, add-one, drop-cons, ◌+◌, ◌*◌, ◌-◌, ◌<◌, ◌≤◌, min, Bool, true, false, List, [], ◌∷◌, length, drop, get_or, refl, sym, ap, ◌∙◌, arith, leb, inl, inr, IsTrue}
use Rattle.std.proofs.lemmas.Bool.Decides.{leb_tells, nat_tests}
use Rattle.std.specs.List.{list_all}
use Rattle.std.proofs.lemmas.List.Folds.{list_all_at}
use Rattle.std.proofs.lemmas.Bool.{false≢true}
use Rattle.std.specs.Str.Parse.{digits_value_after}
use Rattle.std.specs.Char.{digit_value, is_ascii_digit}
use Rattle.http_messages.specs.declared.limits.TheConstants.{BODY_LIMIT}

grows : (n : ℕ) (ds : List ℕ) → n ≤ digits_value_after 10 n ds
grows n [] = omega arith
grows n (d ∷ ds) = omega (arith, grows (n * 10 + digit_value d) ds)

-- what is cut at the limit on the way is cut at the end
pub capped : (n c : ℕ) (ds : List ℕ) → min (digits_value_after 10 (min n c) ds) c ≡ min (digits_value_after 10 n ds) c
capped n c ds = at (leb_tells n c)
  where
    at : (((leb n c ≡ true) × (n ≤ c)) ⊎ ((leb n c ≡ false) × (c < n))) → min (digits_value_after 10 (min n c) ds) c ≡ min (digits_value_after 10 n ds) c
    at (inl h) = let same : min n c ≡ n = omega (arith, h.1) in ap (λ (k : ℕ). min (digits_value_after 10 k ds) c) same
    at (inr h) = omega (arith, h.1, grows (min n c) ds, grows n ds)

pub digit_of : (d : ℕ) → is_ascii_digit d ≡ true → digit_value d ≡ d - 48
digit_of d h = grind (arith, nat_tests)

-- each of some digits is one
pub digit_at : (ds : List ℕ) (i : ℕ) → IsTrue (list_all is_ascii_digit ds) → i < length ds → is_ascii_digit (get_or ds i 0) ≡ true
digit_at ds i h within = at (is_ascii_digit (get_or ds i 0)) refl
  where
    at : (t : Bool) → is_ascii_digit (get_or ds i 0) ≡ t → is_ascii_digit (get_or ds i 0) ≡ true
    at true e = e
    at false e = absurd (false≢true (sym (list_all_at is_ascii_digit ds i 0 within e) ∙ h))

-- one more digit
pub capped_on : (ds : List ℕ) (i size : ℕ) → IsTrue (list_all is_ascii_digit ds) → i < length ds
    → min (digits_value_after 10 (min (size * 10 + (get_or ds i 0 - 48)) (BODY_LIMIT + 1)) (drop (i + 1) ds)) (BODY_LIMIT + 1) ≡ min (digits_value_after 10 size (drop i ds)) (BODY_LIMIT + 1)
capped_on ds i size h within =
    let d = get_or ds i 0 in
    let on : digits_value_after 10 size (drop i ds) ≡ digits_value_after 10 (size * 10 + (d - 48)) (drop (i + 1) ds) =
    rw add-one (
    ap (digits_value_after 10 size) (drop-cons ds i 0 within)
    ∙ ap (λ (k : ℕ). digits_value_after 10 (size * 10 + k) (drop (suc i) ds)) (digit_of d (digit_at ds i h within))
    ) in
    capped (size * 10 + (d - 48)) (BODY_LIMIT + 1) (drop (i + 1) ds) ∙ ap (λ (k : ℕ). min k (BODY_LIMIT + 1)) (sym on)
