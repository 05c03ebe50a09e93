-- Lemmas on lists of stations of which one more is done.
use Rattle.std.proofs.Common.{◌≡◌, ◌⊎◌, ℕ, ◌+◌, ◌<◌, ◌≤◌, List, [], ◌∷◌, length, take, set, get_or, sum_by, ap, sym, subst, ◌∙◌, Some, None, inl, inr, arith}
use Rattle.std.proofs.lemmas.List.{get_or-set_other, take_more}
use Rattle.std.proofs.lemmas.Grind.{get_or-set_at}
use Rattle.std.proofs.lemmas.List.Sums.{sum_by-append}
use Rattle.std.specs.Prelude.{IfSome, IsSome}
use Rattle.std.proofs.lemmas.Bool.{false≢true}
use Rattle.std.specs.declared.option.Option.{Option}
use Rattle.worker_stations.specs.declared.stations.Station.{Station}
use Rattle.worker_stations.specs.Stations.{AreServed, IsTaken, Ran, count_of}

-- what holds of a pass, where it is there
pub some_is : {P : Type 0} (Q : P → Type 0) (o : Option P) (p : P) → o ≡ Some p → IfSome o Q → Q p
some_is Q o p e h = subst (λ v. IfSome v Q) e h

pub is_some : {P : Type 0} (Q : P → Type 0) (o : Option P) (p : P) → o ≡ Some p → Q p → IfSome o Q
is_some Q o p e h = subst (λ v. IfSome v Q) (sym e) h

less_or : (i k : ℕ) → i < k + 1 → (i < k) ⊎ (i ≡ k)
less_or i k h = grind arith

-- one more place of a list was changed
module _ {X : Type 0} (R : X → X → Type 0) (xs ys : List X) (k : ℕ) (s t : X) (within : k < length xs) (len : length ys ≡ length xs) (at : (d : X) → get_or ys k d ≡ s)
    (after : (i : ℕ) (d : X) → k ≤ i → i < length xs → get_or ys i d ≡ get_or xs i d) where
  pub was : (d : X) → get_or xs k d ≡ s
  was d = sym (after k d (omega arith) within) ∙ at d

  pub changed_more : ((i : ℕ) (d : X) → i < k → R (get_or xs i d) (get_or ys i d)) → R s t → (i : ℕ) (d : X) → i < k + 1 → R (get_or xs i d) (get_or (set ys k t) i d)
  changed_more before one i d h = by (less_or i k h)
    where
      by : (i < k) ⊎ (i ≡ k) → R (get_or xs i d) (get_or (set ys k t) i d)
      by (inl lt) = subst (R (get_or xs i d)) (sym (get_or-set_other ys k i t d (λ e. absurd (omega (arith, lt, e))))) (before i d lt)
      by (inr e) =
          subst (R (get_or xs i d)) (sym (get_or-set_at ys k i t d e (omega (arith, within, len))))
          (subst (λ v. R v t) (sym (ap (λ n. get_or xs n d) e ∙ was d)) one)

  pub kept_after : (i : ℕ) (d : X) → k + 1 ≤ i → i < length xs → get_or (set ys k t) i d ≡ get_or xs i d
  kept_after i d low high = get_or-set_other ys k i t d (λ e. absurd (omega (arith, low, e))) ∙ after i d (omega (arith, low)) high

-- one more place of a list is known
pub known_more : {X : Type 0} (Q : X → Type 0) (xs : List X) (k : ℕ) (s : X) → ((d : X) → get_or xs k d ≡ s) → ((i : ℕ) (d : X) → i < k → Q (get_or xs i d)) → Q s
    → (i : ℕ) (d : X) → i < k + 1 → Q (get_or xs i d)
known_more {X} Q xs k s was before one i d h = by (less_or i k h)
  where
    by : (i < k) ⊎ (i ≡ k) → Q (get_or xs i d)
    by (inl lt) = before i d lt
    by (inr e) = subst Q (sym (ap (λ n. get_or xs n d) e ∙ was d)) one

pub sum_more : {X : Type 0} (f : X → ℕ) (xs : List X) (k : ℕ) (s : X) → k < length xs → get_or xs k s ≡ s → sum_by f (take (k + 1) xs) ≡ sum_by f (take k xs) + f s
sum_more f xs k s within was =
    ap (sum_by f) (take_more xs k s within) ∙ (sum_by-append f (take k xs) (get_or xs k s ∷ []) ∙ ap (λ v. sum_by f (take k xs) + (0 + f v)) was ∙ ap (λ n. sum_by f (take k xs) + n) (omega arith))

module _ {P X : Type 0} (within : P → P → Type 0) (then : (p q r : P) → within p q → within q r → within p r) (pass : X → Option P) (xs : List X) where
  weaker : (w r : P) → within w r → (o : Option P) → IfSome o (λ p. within p w) → IfSome o (λ p. within p r)
  weaker w r grown None x = tt
  weaker w r grown (Some p) x = then p w r x grown

  within_more : (k : ℕ) (whole : Option P) (r : P) → (0 < k → IsSome whole) → IfSome whole (λ w. within w r)
      → IfSome whole (λ w. (i : ℕ) (d : X) → i < k → IfSome (pass (get_or xs i d)) (λ p. within p w))
      → (i : ℕ) (d : X) → i < k → IfSome (pass (get_or xs i d)) (λ p. within p r)
  within_more k None r some grown before i d h = absurd (false≢true (some (omega (arith, h))))
  within_more k (Some w) r some grown before i d h = weaker w r grown (pass (get_or xs i d)) (before i d h)

  pub within_step : (k : ℕ) (s : X) (p : P) (whole : Option P) (r : P) → ((d : X) → get_or xs k d ≡ s)
      → (0 < k → IsSome whole) → IfSome whole (λ w. within w r)
      → IfSome whole (λ w. (i : ℕ) (d : X) → i < k → IfSome (pass (get_or xs i d)) (λ q. within q w))
      → pass s ≡ Some p → within p r
      → (i : ℕ) (d : X) → i < k + 1 → IfSome (pass (get_or xs i d)) (λ q. within q r)
  within_step k s p whole r there some grown before is one =
      known_more (λ x. IfSome (pass x) (λ q. within q r)) xs k s there (within_more k whole r some grown before) (is_some (λ q. within q r) (pass s) p is one)

pub served_all : {L G P X E : Type 0} (ran : Station L G P E → Station L G P E → Type 0) (own : P → Type 0) (within : P → P → Type 0) (mine : P → List X) (whole : Option P) (xs ms ys : List (Station L G P E)) → length ms ≡ length xs → length ys ≡ length ms
    → ((i : ℕ) (d : Station L G P E) → i < length xs → Ran ran own (get_or xs i d) (get_or ms i d))
    → ((i : ℕ) (d : Station L G P E) → i < length ms → IsTaken (get_or ms i d) (get_or ys i d))
    → IfSome whole (λ w. (i : ℕ) (d : Station L G P E) → i < length ms → IfSome (get_or ms i d).pass (λ p. within p w))
    → IfSome whole (λ w. length (mine w) ≡ sum_by (λ s. count_of mine s.pass) ms)
    → IfSome whole (λ w. AreServed ran own within mine w xs ys)
served_all ran own within mine None xs ms ys len now run taken joined sum = tt
served_all ran own within mine (Some w) xs ms ys len now run taken joined sum =
    record { middle = ms; len = len; len_now = now; ran_each = λ i d h. run i d (omega (arith, h, len)); taken_each = taken; joined_each = joined; entries = sum }
