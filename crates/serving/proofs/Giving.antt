-- Stations of which one more has its pass.
use Rattle.std.proofs.Common.{◌≡◌, ◌⊎◌, ℕ, zero, suc, ◌+◌, ◌<◌, ◌≤◌, true, false, true≢false, List, [], ◌∷◌, ◌++◌, length, set, get_or, refl, ap, sym, ◌∙◌, arith, Some, inl, inr, length-append}
use Rattle.std.proofs.lemmas.List.{get_or_default, get_or-set_other}
use Rattle.std.proofs.lemmas.Grind.{get_or-set_at}
use Rattle.worker_stations.specs.declared.stations.Station.{Station}

less_or_past : (i k : ℕ) → k ≤ i → (k + 1 ≤ i) ⊎ (i ≡ k)
less_or_past i k h = grind arith

-- a list of which nothing was popped is empty
pub none_left : (n : ℕ) → (0 < n → false ≡ true) → n ≡ 0
none_left zero some = refl
none_left (suc n) some = absurd (true≢false (sym (some (omega arith))))

module _ {A : Type 0} where
  get_front : (ys : List A) (x : A) (i : ℕ) (p : A) → i < length ys → get_or (ys ++ x ∷ []) i p ≡ get_or ys i p
  get_front [] x i p h = absurd (omega (arith, h))
  get_front (y ∷ ys) x zero p h = refl
  get_front (y ∷ ys) x (suc i) p h = get_front ys x i p (omega (arith, h))

  get_last : (ys : List A) (x : A) (p : A) → get_or (ys ++ x ∷ []) (length ys) p ≡ x
  get_last [] x p = refl
  get_last (y ∷ ys) x p = get_last ys x p

  -- what is left of a list behind a pop, and what was popped
  module _ (all old new : List A) (x : A) (popped : old ≡ new ++ x ∷ []) (left : (i : ℕ) (p : A) → i < length old → get_or old i p ≡ get_or all i p) where
    pub one_less : length old ≡ length new + 1
    one_less = ap length popped ∙ length-append new (x ∷ [])

    pub left_less : (i : ℕ) (p : A) → i < length new → get_or new i p ≡ get_or all i p
    left_less i p h = sym (get_front new x i p h) ∙ ap (λ l. get_or l i p) (sym popped) ∙ left i p (omega (arith, h, one_less))

    pub popped_is : (p : A) → x ≡ get_or all (length new) p
    popped_is p = sym (get_last new x p) ∙ ap (λ l. get_or l (length new) p) (sym popped) ∙ left (length new) p (omega (arith, one_less))

module _ {L G P E : Type 0} (all old new : List P) (xs ys : List (Station L G P E)) (k : ℕ) (s t : Station L G P E) (x : P) (len : length ys ≡ length xs) (few : length old ≤ length xs)
    (popped : old ≡ new ++ x ∷ []) (at : k ≡ length new) (left : (i : ℕ) (p : P) → i < length old → get_or old i p ≡ get_or all i p)
    (before : (i : ℕ) (d : Station L G P E) → i < length old → get_or ys i d ≡ get_or xs i d) (put : t ≡ record (get_or ys k s) { pass = Some x }) where
  inside : k < length ys
  inside = let n = one_less all old new x popped left in omega (arith, len, few, n, at)

  pub before_less : (i : ℕ) (d : Station L G P E) → i < length new → get_or (set ys k t) i d ≡ get_or xs i d
  before_less i d h =
      let n = one_less all old new x popped left in
      get_or-set_other ys k i t d (λ e. absurd (omega (arith, e, h, at))) ∙ before i d (omega (arith, n, h))

  here : (d : Station L G P E) (p : P) → t ≡ record (get_or xs k d) { pass = Some (get_or all k p) }
  here d p =
      let n = one_less all old new x popped left in
      let station : get_or ys k s ≡ get_or xs k d = before k s (omega (arith, n, at)) ∙ same_at s d in
      put ∙ ap (λ (u : Station L G P E). record u { pass = Some x }) station ∙ ap (λ (q : P). record (get_or xs k d) { pass = Some q }) (popped_is all old new x popped left p ∙ ap (λ m. get_or all m p) (sym at))
    where
      same_at : (s d : Station L G P E) → get_or xs k s ≡ get_or xs k d
      same_at s d = get_or_default xs k s d (omega (arith, len, inside))

  pub given_more : ((i : ℕ) (d : Station L G P E) (p : P) → length old ≤ i → i < length xs → get_or ys i d ≡ record (get_or xs i d) { pass = Some (get_or all i p) })
      → (i : ℕ) (d : Station L G P E) (p : P) → length new ≤ i → i < length xs → get_or (set ys k t) i d ≡ record (get_or xs i d) { pass = Some (get_or all i p) }
  given_more given i d p low high = by (less_or_past i (length new) low)
    where
      by : (length new + 1 ≤ i) ⊎ (i ≡ length new) → get_or (set ys k t) i d ≡ record (get_or xs i d) { pass = Some (get_or all i p) }
      by (inl past) =
          let n = one_less all old new x popped left in
          get_or-set_other ys k i t d (λ e. absurd (omega (arith, e, past, at))) ∙ given i d p (omega (arith, n, past)) high
      by (inr is) = get_or-set_at ys k i t d (is ∙ sym at) inside ∙ here d p ∙ ap (λ m. record (get_or xs m d) { pass = Some (get_or all m p) }) (at ∙ sym is)
