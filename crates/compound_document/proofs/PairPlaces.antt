-- The place of a pair among those in byte order of names.
use Rattle.std.proofs.Common.{◌≡◌, ℕ, suc, ◌+◌, ◌<◌, ◌≤◌, List, [], ◌∷◌, Bool, true, false, length, drop, get_or, refl, sym, ap, ◌∙◌, arith, add-one, drop-cons}
use Rattle.std.specs.Prelude.{if◌then◌else◌}
use Rattle.std.specs.List.{insert}
use Rattle.std.specs.Cmp.Lexicographic.{slice_cmp}
use Rattle.std.specs.Ordering.{nat_cmp, is_gt}
use Rattle.store_model.specs.Document.{insert_pair}
use Rattle.compound_document.specs.Pairs.{place_of_pair}

abbrev Pair : Type 0
Pair = List ℕ × List ℕ

abbrev greater : List ℕ → Pair → Bool
greater name q = is_gt (slice_cmp nat_cmp name q.0)

-- a pair is put in at its place
pub put_in : (p : Pair) (pairs : List Pair) → insert pairs (place_of_pair p.0 pairs) p ≡ insert_pair p pairs
put_in p [] = refl
put_in p (q ∷ pairs) = by_test (greater p.0 q) (put_in p pairs)
  where
    by_test : (b : Bool) → insert pairs (place_of_pair p.0 pairs) p ≡ insert_pair p pairs → insert (q ∷ pairs) (if b then suc (place_of_pair p.0 pairs) else 0) p ≡ (if b then q ∷ insert_pair p pairs else p ∷ q ∷ pairs)
    by_test true later = ap (λ xs. q ∷ xs) later
    by_test false later = refl

pub place_within : (name : List ℕ) (pairs : List Pair) → place_of_pair name pairs ≤ length pairs
place_within name [] = omega arith
place_within name (q ∷ pairs) = by_test (greater name q) (place_within name pairs)
  where
    by_test : (b : Bool) → place_of_pair name pairs ≤ length pairs → (if b then suc (place_of_pair name pairs) else 0) ≤ suc (length pairs)
    by_test true h = omega (arith, h)
    by_test false h = omega arith

-- ---- as a loop finds it

-- the place, where the pairs before this one are less
abbrev pub IsPlaceFrom : List ℕ → List Pair → ℕ → Type 0
IsPlaceFrom name pairs i = place_of_pair name pairs ≡ i + place_of_pair name (drop i pairs)

drop_next : (pairs : List Pair) (i : ℕ) (q : Pair) → i < length pairs → q ≡ get_or pairs i q → drop i pairs ≡ q ∷ drop (i + 1) pairs
drop_next pairs i q lt is = rw (add-one, drop-cons pairs i q) (ap (λ r. r ∷ drop (suc i) pairs) (sym is))

step_is : (name : List ℕ) (q : Pair) (pairs : List Pair) (b : Bool) → greater name q ≡ b → place_of_pair name (q ∷ pairs) ≡ (if b then suc (place_of_pair name pairs) else 0)
step_is name q pairs b e = ap (λ c. if c then suc (place_of_pair name pairs) else 0) e

pub place_on : (name : List ℕ) (pairs : List Pair) (i : ℕ) (q : Pair) → i < length pairs → q ≡ get_or pairs i q → greater name q ≡ true → IsPlaceFrom name pairs i → IsPlaceFrom name pairs (i + 1)
place_on name pairs i q lt is more so_far =
    let step : place_of_pair name (drop i pairs) ≡ suc (place_of_pair name (drop (i + 1) pairs)) = ap (place_of_pair name) (drop_next pairs i q lt is) ∙ step_is name q (drop (i + 1) pairs) true more in
    omega (arith, so_far, step)

pub place_here : (name : List ℕ) (pairs : List Pair) (i : ℕ) (q : Pair) → i < length pairs → q ≡ get_or pairs i q → greater name q ≡ false → IsPlaceFrom name pairs i → i ≡ place_of_pair name pairs
place_here name pairs i q lt is less so_far =
    let stop : place_of_pair name (drop i pairs) ≡ 0 = ap (place_of_pair name) (drop_next pairs i q lt is) ∙ step_is name q (drop (i + 1) pairs) false less in
    omega (arith, so_far, stop)

pub place_at_end : (name : List ℕ) (pairs : List Pair) (i : ℕ) → drop i pairs ≡ [] → IsPlaceFrom name pairs i → i ≡ place_of_pair name pairs
place_at_end name pairs i none so_far =
    let stop : place_of_pair name (drop i pairs) ≡ 0 = ap (place_of_pair name) none in
    omega (arith, so_far, stop)
