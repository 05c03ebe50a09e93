-- Sums over places, and the entries of a history by numbers.
use Rattle.std.proofs.Common.{◌≡◌, ◌⊎◌, ℕ, zero, suc, ◌+◌, ◌*◌, ◌<◌, ◌≤◌, ◌==◌, Bool, true, false, true≢false, List, [], ◌∷◌, ◌++◌, length, get_or, sum_by, refl, ap, sym, subst, ◌∙◌, arith, length-append, append-nil, take, inl, inr}
use Rattle.std.specs.Prelude.{All, if◌then◌else◌, ◌||◌}
use Rattle.std.proofs.lemmas.Bool.Decides.{nat_tests}
use Rattle.std.proofs.lemmas.List.Sums.{sum_by-cons, sum_by_push}
use Rattle.std.proofs.lemmas.List.{take_more}
use Rattle.std.proofs.lemmas.List.Elements.{All-cons, All-nil}
use mathlib.Core.List.{IsPrefix}
use Rattle.ident_rules.specs.Owned.{is_among, entries_by, entries_by-append}
use Rattle.history_lock.specs.Views.{numbers_from}

-- ---- sums

module _ {X : Type 0} (f : X → ℕ) where
  module _ (c : ℕ → ℕ) where
    abbrev pub AreBelow : List X → ℕ → Type 0
    AreBelow xs i = (j : ℕ) (d : X) → j < length xs → f (get_or xs j d) ≤ c (i + j)

    head_below : (x : X) (xs : List X) (i : ℕ) → AreBelow (x ∷ xs) i → f x ≤ c i
    head_below x xs i low = let same : i + 0 ≡ i = omega arith in subst (λ k. f x ≤ c k) same (low 0 x (omega arith))

    tail_below : (x : X) (xs : List X) (i : ℕ) → AreBelow (x ∷ xs) i → AreBelow xs (suc i)
    tail_below x xs i low j d h = let same : i + suc j ≡ suc i + j = omega arith in subst (λ k. f (get_or xs j d) ≤ c k) same (low (suc j) d (omega (arith, h)))

    -- what is below at each place is below as a sum
    pub sums_below : (xs : List X) (i : ℕ) → AreBelow xs i → sum_by f xs ≤ sum_by c (numbers_from i (length xs))
    sums_below [] i low = omega arith
    sums_below (x ∷ xs) i low =
        let one = head_below x xs i low in
        let rest = sums_below xs (suc i) (tail_below x xs i low) in
        omega (arith, one, rest, sum_by-cons f x xs, sum_by-cons c i (numbers_from (suc i) (length xs)))

    -- and where the sum is no less, each place is equal
    pub squeezed : (xs : List X) (i : ℕ) → AreBelow xs i → sum_by c (numbers_from i (length xs)) ≤ sum_by f xs → (j : ℕ) (d : X) → j < length xs → f (get_or xs j d) ≡ c (i + j)
    squeezed [] i low all j d h = absurd (omega (arith, h))
    squeezed (x ∷ xs) i low all zero d h =
        let one = head_below x xs i low in
        let rest = sums_below xs (suc i) (tail_below x xs i low) in
        let same : i ≡ i + 0 = omega arith in
        let is : f x ≡ c i = omega (arith, one, rest, all, sum_by-cons f x xs, sum_by-cons c i (numbers_from (suc i) (length xs))) in
        is ∙ ap c same
    squeezed (x ∷ xs) i low all (suc j) d h =
        let one = head_below x xs i low in
        let same : suc i + j ≡ i + suc j = omega arith in
        squeezed xs (suc i) (tail_below x xs i low) (omega (arith, one, all, sum_by-cons f x xs, sum_by-cons c i (numbers_from (suc i) (length xs)))) j d (omega (arith, h)) ∙ ap c same

  -- of one place more
  pub sum_more : (xs : List X) (k : ℕ) (s : X) → k < length xs → get_or xs k s ≡ s → sum_by f (take (k + 1) xs) ≡ sum_by f (take k xs) + f s
  sum_more xs k s within was = ap (sum_by f) (take_more xs k s within) ∙ sum_by_push f (take k xs) (get_or xs k s) ∙ ap (λ v. sum_by f (take k xs) + f v) was

  -- so many places, each with no more than a million million
  pub sum_bound : (xs : List X) → ((j : ℕ) (d : X) → j < length xs → f (get_or xs j d) ≤ 1000000000000) → sum_by f xs ≤ 1000000000000 * length xs
  sum_bound [] low = omega arith
  sum_bound (x ∷ xs) low =
      let one = low 0 x (omega arith) in
      let rest = sum_bound xs (λ j d h. low (suc j) d (omega (arith, h))) in
      omega (arith, one, rest, sum_by-cons f x xs)

pub sums_same : {X Y : Type 0} (f : X → ℕ) (g : Y → ℕ) (xs : List X) (ys : List Y) → length ys ≡ length xs → ((j : ℕ) (d : X) (e : Y) → j < length xs → f (get_or xs j d) ≡ g (get_or ys j e)) → sum_by f xs ≡ sum_by g ys
sums_same f g [] [] len same = refl
sums_same f g [] (y ∷ ys) len same = absurd (omega (arith, len))
sums_same f g (x ∷ xs) [] len same = absurd (omega (arith, len))
sums_same f g (x ∷ xs) (y ∷ ys) len same =
    let one = same 0 x y (omega arith) in
    let rest = sums_same f g xs ys (omega (arith, len)) (λ j d e h. same (suc j) d e (omega (arith, h))) in
    omega (arith, one, rest, sum_by-cons f x xs, sum_by-cons g y ys)

-- ---- numbers

off : false ≡ true → ⊥
off e = true≢false (sym e)

or_false : (a b : Bool) → a ≡ false → b ≡ false → (a || b) ≡ false
or_false a b p q = ap (λ x. x || b) p ∙ q

or_cases : (a b : Bool) → (a || b) ≡ true → (a ≡ true) ⊎ (b ≡ true)
or_cases true b e = inl refl
or_cases false b e = inr e

is_number : (n k : ℕ) → (n == k) ≡ true → n ≡ k
is_number n k h = grind (arith, nat_tests, h)

is_itself : (k : ℕ) → (k == k) ≡ true
is_itself k = grind (arith, nat_tests)

is_no_number : (k i : ℕ) → k < i → (k == i) ≡ false
is_no_number k i h = grind (arith, nat_tests, h)

pub none_below : (k i n : ℕ) → k < i → is_among k (numbers_from i n) ≡ false
none_below k i zero h = refl
none_below k i (suc n) h = or_false (k == i) (is_among k (numbers_from (suc i) n)) (is_no_number k i h) (none_below k (suc i) n (omega (arith, h)))

pub among_low : (k i n : ℕ) → is_among k (numbers_from i n) ≡ true → k < i + n
among_low k i zero e = absurd (off e)
among_low k i (suc n) e = low_of (or_cases (k == i) (is_among k (numbers_from (suc i) n)) e) (among_low k (suc i) n)
  where
    low_of : ((k == i) ≡ true) ⊎ (is_among k (numbers_from (suc i) n) ≡ true) → (is_among k (numbers_from (suc i) n) ≡ true → k < suc i + n) → k < i + suc n
    low_of (inl is) rest = let same = is_number k i is in omega (arith, same)
    low_of (inr further) rest = let low = rest further in omega (arith, low)

pub among_one : (k : ℕ) → is_among k (k ∷ []) ≡ true
among_one k = ap (λ b. b || false) (is_itself k)

-- ---- entries

module _ {E : Type 0} (by : E → ℕ) where
  few_cases : (e : E) (b : Bool) (own es : List E) → length own ≤ length es → length (if b then e ∷ own else own) ≤ length (e ∷ es)
  few_cases e true own es low = omega (arith, low)
  few_cases e false own es low = omega (arith, low)

  pub own_few : (ns : List ℕ) (l : List E) → length (entries_by by ns l) ≤ length l
  own_few ns [] = omega arith
  own_few ns (e ∷ es) = few_cases e (is_among (by e) ns) (entries_by by ns es) es (own_few ns es)

  -- of one number more
  more_cases : (e : E) (a b : Bool) (whole one rest : List E) → length whole ≡ length one + length rest → (a ≡ true → b ≡ false)
      → length (if a || b then e ∷ whole else whole) ≡ length (if a || false then e ∷ one else one) + length (if b then e ∷ rest else rest)
  more_cases e true true whole one rest n apart = absurd (true≢false (apart refl))
  more_cases e true false whole one rest n apart = omega (arith, n)
  more_cases e false true whole one rest n apart = omega (arith, n)
  more_cases e false false whole one rest n apart = n

  count_more : (k : ℕ) (ns : List ℕ) → is_among k ns ≡ false → (l : List E) → length (entries_by by (k ∷ ns) l) ≡ length (entries_by by (k ∷ []) l) + length (entries_by by ns l)
  count_more k ns apart [] = refl
  count_more k ns apart (e ∷ es) =
      more_cases e (by e == k) (is_among (by e) ns) (entries_by by (k ∷ ns) es) (entries_by by (k ∷ []) es) (entries_by by ns es) (count_more k ns apart es)
      (λ is. ap (λ n. is_among n ns) (is_number (by e) k is) ∙ apart)

  count_none : (l : List E) → length (entries_by by [] l) ≡ 0
  count_none [] = refl
  count_none (e ∷ es) = count_none es

  -- the entries of numbers are those of each
  pub count_each : (i n : ℕ) (l : List E) → sum_by (λ k. length (entries_by by (k ∷ []) l)) (numbers_from i n) ≡ length (entries_by by (numbers_from i n) l)
  count_each i zero l = sym (count_none l)
  count_each i (suc n) l =
      let rest = count_each (suc i) n l in
      let more = count_more i (numbers_from (suc i) n) (none_below i (suc i) n (omega arith)) l in
      omega (arith, rest, more, sum_by-cons (λ k. length (entries_by by (k ∷ []) l)) i (numbers_from (suc i) n))

  -- where they are as many as all, each entry has one of the numbers
  pub all_among : (ns : List ℕ) (l : List E) → length l ≤ length (entries_by by ns l) → All (λ e. is_among (by e) ns ≡ true) l
  all_among ns [] all = All-nil (λ e. is_among (by e) ns ≡ true)
  all_among ns (e ∷ es) all = at (is_among (by e) ns) refl (all_among ns es)
    where
      at : (b : Bool) → is_among (by e) ns ≡ b → (length es ≤ length (entries_by by ns es) → All (λ x. is_among (by x) ns ≡ true) es) → All (λ x. is_among (by x) ns ≡ true) (e ∷ es)
      at true is rest =
          let n : length (entries_by by ns (e ∷ es)) ≡ length (e ∷ entries_by by ns es) = ap (λ b. length (if b then e ∷ entries_by by ns es else entries_by by ns es)) is in
          All-cons (λ x. is_among (by x) ns ≡ true) e es is (rest (omega (arith, n, all)))
      at false is rest =
          let n : length (entries_by by ns (e ∷ es)) ≡ length (entries_by by ns es) = ap (λ b. length (if b then e ∷ entries_by by ns es else entries_by by ns es)) is in
          let few = own_few ns es in
          absurd (omega (arith, n, few, all))

  -- of a beginning
  parts : (ns : List ℕ) (seen history : List E) (p : IsPrefix seen history) → entries_by by ns history ≡ entries_by by ns seen ++ entries_by by ns p.0
  parts ns seen history p = ap (entries_by by ns) (sym p.1) ∙ entries_by-append by ns seen p.0

  pub own_within : (ns : List ℕ) (seen history : List E) → IsPrefix seen history → length (entries_by by ns seen) ≤ length (entries_by by ns history)
  own_within ns seen history p =
      let n = ap length (parts ns seen history p) in
      let m = length-append (entries_by by ns seen) (entries_by by ns p.0) in
      omega (arith, n, m)

  no_entry : (l : List E) → length l ≡ 0 → l ≡ []
  no_entry [] n = refl
  no_entry (e ∷ l) n = absurd (omega (arith, n))

  -- a beginning with as many of them has them all
  pub own_all : (ns : List ℕ) (seen history : List E) → IsPrefix seen history → length (entries_by by ns seen) ≡ length (entries_by by ns history) → entries_by by ns seen ≡ entries_by by ns history
  own_all ns seen history p same =
      let n = ap length (parts ns seen history p) in
      let m = length-append (entries_by by ns seen) (entries_by by ns p.0) in
      let none = no_entry (entries_by by ns p.0) (omega (arith, n, m, same)) in
      sym (parts ns seen history p ∙ ap (λ l. entries_by by ns seen ++ l) none ∙ append-nil (entries_by by ns seen))
