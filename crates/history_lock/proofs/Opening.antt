-- The first steps of a lock keep its rule.
use Rattle.std.proofs.Common.{◌≡◌, ◌⊎◌, ℕ, zero, suc, ◌+◌, ◌<◌, ◌≤◌, ◌==◌, List, [], ◌∷◌, length, Option, Some, None, Bool, true, false, refl, sym, ap, ◌∙◌, subst, inl, inr, ⊎_elim, arith, add-zero}
use Rattle.std.specs.Prelude.{◌||◌}
use Rattle.std.proofs.lemmas.List.Elements.{All-nil}
use mathlib.Core.Option.{some, none, some-injective, some-ne-none}
use lib.ListN.{get_elem?}
use Rattle.atomic_table.specs.Table.{State, Me, Act, takes, gives, Valid, stepped, carried_after, Allows, opening}
use Rattle.ident_rules.specs.Owned.{is_among}
use Rattle.history_lock.specs.declared.rule.Knows.{Knows}
use Rattle.history_lock.specs.declared.rule.Start.{Start}
use Rattle.history_lock.specs.Views.{numbers_from, blank, fetched, new_view}
use Rattle.history_lock.specs.Rule.{IsRight, Fits, IsNew, IsKept}
use Rattle.history_lock.specs.Told.{Fetched, Opened}
use Rattle.history_lock.proofs.Histories.{off, prefix_self}
use Rattle.std.proofs.lemmas.Bool.{eqb-true, eq-eqb}
use Rattle.history_lock.proofs.Passing.{none_is_not}

or_of : (a b : Bool) → (a || b) ≡ true → (a ≡ true) ⊎ (b ≡ true)
or_of true b e = inl refl
or_of false b e = inr e

-- numbers from one on are at least that one, and below its sum with their count
pub among_from : (n i count : ℕ) → is_among n (numbers_from i count) ≡ true → (i ≤ n) × (n < i + count)
among_from n i zero e = absurd (off e)
among_from n i (suc count) e =
    ⊎_elim
    (λ h. let same : n ≡ i = eqb-true n i h in (omega (arith, same), omega (arith, same)))
    (λ h. let r = among_from n (suc i) count h in let low = r.0 in let high = r.1 in (omega (arith, low), omega (arith, high)))
    (or_of (n == i) (is_among n (numbers_from (suc i) count)) e)

or_true : (a b : Bool) → a ≡ true → (a || b) ≡ true
or_true true b e = refl
or_true false b e = absurd (off e)

pub among_first : (n : ℕ) (ns : List ℕ) → is_among n (n ∷ ns) ≡ true
among_first n ns = or_true (n == n) (is_among n ns) (eq-eqb n n refl)

no_numbers : (i count : ℕ) → 1 ≤ count → numbers_from i count ≡ [] → ⊥
no_numbers i zero few e = omega (arith, few)
no_numbers i (suc count) few e = let n : length (i ∷ numbers_from (suc i) count) ≡ 0 = ap length e in omega (arith, n)

some_from : (i count : ℕ) → 1 ≤ count → is_among i (numbers_from i count) ≡ true
some_from i zero few = absurd (omega (arith, few))
some_from i (suc count) few = among_first i (numbers_from (suc i) count)

module _ {T E K : Type 0} (stands : T → ℕ → List E → Type 0) (by : E → ℕ) (kind : T → K) where
  pub opening_kept : (start : Start) → IsKept stands by kind start (opening (2 ∷ start.first ∷ []) (None ∷ []) (blank start))
  opening_kept start = inl record { words = refl; stage = inl (refl, refl) }

  abbrev FetchGoal : Start → State (Option T) (Knows E K) → Type 0
  FetchGoal start s' = (w : Knows E K) × (a : Act (Option T)) × Valid s'.homes [] a × IsKept stands by kind start (stepped s' 0 2 0 [] w a) × Fetched (blank start, []) (w, carried_after [] a)

  fetches_it : (start : Start) (slots : ℕ) → 1 ≤ start.passes → Allows (IsKept stands by kind start) slots 0 (blank start, []) 0 (λ _. 2) (λ _. Fetched (blank start, []))
  fetches_it start slots some_pass s kept len at lt = by_kept kept
    where
      by_stage : IsNew stands by kind start s → ((s.homes ≡ some None ∷ []) × (s.views ≡ blank start ∷ [])) ⊎ ((s.homes ≡ none ∷ []) × (s.views ≡ fetched start ∷ [])) → FetchGoal start s
      by_stage new (inl t) =
          let s0 : State (Option T) (Knows E K) = record { words = 2 ∷ start.first ∷ []; homes = some None ∷ []; views = blank start ∷ [] } in
          let path : s0 ≡ s = λ i. record { words = sym new.words i; homes = sym t.0 i; views = sym t.1 i } in
          subst (FetchGoal start) path (fetched start, takes 0 None, refl, inl record { words = refl; stage = inr (refl, refl) }, (refl, refl))
      by_stage new (inr t) =
          let same : fetched {E = E} {K = K} start ≡ blank start = some-injective _ _ (subst (λ l. get_elem? l 0 ≡ some (blank {E = E} {K = K} start)) t.1 at) in
          absurd (off (sym (ap (λ (y : Knows E K). y.holds) same)))

      by_fits : (k : K) → (log : List E) → Fits by start k log (blank start) → FetchGoal start s
      by_fits k log (inl e) = absurd (no_numbers 0 start.passes some_pass (ap (λ (y : Knows E K). y.numbers) e))
      by_fits k log (inr r) = absurd (none_is_not k r.kind)

      by_kept : IsKept stands by kind start s → FetchGoal start s
      by_kept (inl new) = by_stage new new.stage
      by_kept (inr o) = by_fits o.k o.log (o.fits 0 (blank start) at)

  abbrev OpenGoal : Start → T → State (Option T) (Knows E K) → Type 0
  OpenGoal start x s' =
      (w : Knows E K) × (a : Act (Option T)) × Valid s'.homes ((0, Some x) ∷ []) a × IsKept stands by kind start (stepped s' 0 0 0 ((0, Some x) ∷ []) w a)
      × Opened kind (fetched start, (0, Some x) ∷ []) (w, carried_after ((0, Some x) ∷ []) a)

  opens_it : (start : Start) (slots : ℕ) (x : T) → 1 ≤ start.passes → stands x start.first []
      → Allows (IsKept stands by kind start) slots 0 (fetched start, (0, Some x) ∷ []) 0 (λ _. 0) (λ _. Opened kind (fetched start, (0, Some x) ∷ []))
  opens_it start slots x some_pass stands_for s kept len at lt = by_kept kept
    where
      numbers : List ℕ
      numbers = numbers_from 0 start.passes

      w : Knows E K
      w = new_view start (kind x) numbers

      only : (P : ℕ → Knows E K → Type 0) → P 0 w → (i : ℕ) (v : Knows E K) → get_elem? (w ∷ []) i ≡ some v → P i v
      only P p zero v e = subst (P 0) (some-injective _ _ e) p
      only P p (suc i) v e = absurd (some-ne-none v (sym e))

      by_stage : IsNew stands by kind start s → ((s.homes ≡ some None ∷ []) × (s.views ≡ blank start ∷ [])) ⊎ ((s.homes ≡ none ∷ []) × (s.views ≡ fetched start ∷ [])) → OpenGoal start x s
      by_stage new (inr t) =
          let s0 : State (Option T) (Knows E K) = record { words = 2 ∷ start.first ∷ []; homes = none ∷ []; views = fetched start ∷ [] } in
          let path : s0 ≡ s = λ i. record { words = sym new.words i; homes = sym t.0 i; views = sym t.1 i } in
          let right : IsRight by start (kind x) [] w = record {
            first = refl;
            kind = refl;
            some_number = (0, some_from 0 start.passes some_pass);
            small = λ n e. let r = (among_from n 0 start.passes e).1 in omega (arith, r);
            seen = prefix_self [];
            within = refl;
            mine = refl;
            joined = tt;
          } in
          subst (OpenGoal start x) path (
            w,
            gives,
            tt,
            inr record {
              log = [];
              k = kind x;
              named = All-nil (λ e. by e < start.passes);
              fits = only (λ i v. Fits by start (kind x) [] v) (inr right);
              apart = λ i j v u n p q a b. only (λ i' _. i' ≡ 0) refl i v p ∙ sym (only (λ j' _. j' ≡ 0) refl j u q);
              lock = inl record { words = ap (λ (n : ℕ). 0 ∷ n ∷ []) (sym (add-zero start.first)); value = x; home = refl; stands_for = stands_for; has_kind = refl; free = only (λ i v. v.holds ≡ false) refl };
            },
            (x, refl, refl, refl),
          )
      by_stage new (inl t) =
          let same : blank {E = E} {K = K} start ≡ fetched start = some-injective _ _ (subst (λ l. get_elem? l 0 ≡ some (fetched {E = E} {K = K} start)) t.1 at) in
          absurd (off (ap (λ (y : Knows E K). y.holds) same))

      by_fits : (k : K) → (log : List E) → Fits by start k log (fetched start) → OpenGoal start x s
      by_fits k log (inl e) = absurd (off (sym (ap (λ (y : Knows E K). y.holds) e)))
      by_fits k log (inr r) = absurd (none_is_not k r.kind)

      by_kept : IsKept stands by kind start s → OpenGoal start x s
      by_kept (inl new) = by_stage new new.stage
      by_kept (inr o) = by_fits o.k o.log (o.fits 0 (fetched start) at)

  -- a seat that is new, at the first steps
  pub fetches_as : (start : Start) (slots id : ℕ) (me : Me (Option T) (Knows E K)) → 1 ≤ start.passes → id ≡ 0 → me ≡ (blank start, [])
      → Allows (IsKept stands by kind start) slots id me 0 (λ _. 2) (λ _. Fetched me)
  fetches_as start slots id me some_pass zero_is is =
      subst (λ (y : ℕ × Me (Option T) (Knows E K)). Allows (IsKept stands by kind start) slots y.0 y.1 0 (λ _. 2) (λ _. Fetched y.1)) (λ i. (sym zero_is i, sym is i)) (fetches_it start slots some_pass)

  pub opens_as : (start : Start) (slots id : ℕ) (me : Me (Option T) (Knows E K)) (x : T) → 1 ≤ start.passes → id ≡ 0 → me ≡ (fetched start, (0, Some x) ∷ []) → stands x start.first []
      → Allows (IsKept stands by kind start) slots id me 0 (λ _. 0) (λ _. Opened kind me)
  opens_as start slots id me x some_pass zero_is is stands_for =
      subst (λ (y : ℕ × Me (Option T) (Knows E K)). Allows (IsKept stands by kind start) slots y.0 y.1 0 (λ _. 0) (λ _. Opened kind y.1)) (λ i. (sym zero_is i, sym is i)) (opens_it start slots x some_pass stands_for)

  abbrev value_or : T → List (ℕ × Option T) → T
  value_or x [] = x
  value_or x ((n, None) ∷ slots) = x
  value_or x ((n, Some y) ∷ slots) = y

  held_one : (x y : T) → ◌≡◌ {A = List (ℕ × Option T)} ((0, Some x) ∷ []) ((0, Some y) ∷ []) → x ≡ y
  held_one x y e = ap (value_or x) e

  -- what the second of them comes to
  pub opened_as : (start : Start) (me now : Me (Option T) (Knows E K)) (value : T) → me ≡ (fetched start, (0, Some value) ∷ []) → Opened kind me now
      → now ≡ (new_view start (kind value) (numbers_from 0 start.passes), [])
  opened_as start me now value is o =
      let same : o.0 ≡ value = held_one o.0 value (sym o.1 ∙ ap (λ (m : Me (Option T) (Knows E K)). m.1) is) in
      let view : now.0 ≡ new_view start (kind value) (numbers_from 0 start.passes) =
      o.2 ∙ (λ i. record (is i).0 { holds = false; kind = Some (kind (same i)) }) in
      λ i. (view i, o.3 i)
