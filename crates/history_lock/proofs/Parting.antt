-- To give the first number of a pass to a new one keeps the rule.
use Rattle.std.proofs.Common.{◌≡◌, ◌≢◌, ◌⊎◌, ℕ, zero, suc, ◌≤◌, List, [], ◌∷◌, ◌++◌, length, set, Bool, true, false, refl, sym, ap, ◌∙◌, subst, inl, inr, ⊎_elim, arith}
use Rattle.std.specs.Prelude.{◌==◌, ◌||◌}
use mathlib.Core.Option.{some, some-injective, some-ne-none}
use lib.ListN.{get_elem?}
use Rattle.std.proofs.lemmas.Bool.{eqb-true}
use Rattle.atomic_table.specs.Table.{Splits}
use Rattle.atomic_table.proofs.Lists.{set_else, at_longer}
use Rattle.ident_rules.specs.Owned.{is_among}
use Rattle.history_lock.specs.declared.rule.Knows.{Knows}
use Rattle.history_lock.specs.declared.rule.Start.{Start}
use Rattle.history_lock.specs.Views.{numbers_from, new_view, first_of, rest_of}
use Rattle.history_lock.specs.Rule.{IsRight, Fits, AreApart, IsTaken, IsOpen, IsKept}
use Rattle.history_lock.proofs.Histories.{off, none_of_part}
use Rattle.history_lock.proofs.Passing.{all_set, right_of}
use Rattle.history_lock.proofs.Keeping.{is_open}
use Rattle.history_lock.proofs.Opening.{among_from, among_first}

module _ {A : Type 0} where
  -- an item of a list with one more behind it
  at_end : (l : List A) (a b : A) (j : ℕ) → get_elem? (l ++ a ∷ []) j ≡ some b → (get_elem? l j ≡ some b) ⊎ ((j ≡ length l) × (a ≡ b))
  at_end [] a b zero e = inr (refl, some-injective a b e)
  at_end [] a b (suc j) e = absurd (some-ne-none b (sym e))
  at_end (x ∷ xs) a b zero e = inl e
  at_end (x ∷ xs) a b (suc j) e = ⊎_elim (λ h. inl h) (λ h. inr (ap suc h.0, h.1)) (at_end xs a b j e)

  pub all_end : (P : ℕ → A → Type 0) (l : List A) (a : A) → ((j : ℕ) (u : A) → get_elem? l j ≡ some u → P j u) → P (length l) a
      → (j : ℕ) (u : A) → get_elem? (l ++ a ∷ []) j ≡ some u → P j u
  all_end P l a front last j u e =
      ⊎_elim (front j u) (λ (h : (j ≡ length l) × (a ≡ u)). subst (λ (y : ℕ × A). P y.0 y.1) (λ i. (sym h.0 i, h.1 i)) last) (at_end l a u j e)

or_right : (a b : Bool) → b ≡ true → (a || b) ≡ true
or_right true b e = refl
or_right false b e = e

behind_first : (n x : ℕ) (ns : List ℕ) → is_among n ns ≡ true → is_among n (x ∷ ns) ≡ true
behind_first n x ns e = or_right (n == x) (is_among n ns) e

or_of : (a b : Bool) → (a || b) ≡ true → (a ≡ true) ⊎ (b ≡ true)
or_of true b e = inl refl
or_of false b e = inr e

one_of : (n x : ℕ) → is_among n (x ∷ []) ≡ true → n ≡ x
one_of n x e = ⊎_elim (eqb-true n x) (λ h. absurd (off h)) (or_of (n == x) false e)

module _ {T E K : Type 0} (stands : T → ℕ → List E → Type 0) (by : E → ℕ) (kind : T → K) where
  -- a part of the numbers of a pass that has made nothing
  part_right : (start : Start) (k : K) (log : List E) (k' : K) (ns ms : List ℕ) (m : ℕ) → is_among m ms ≡ true → ((n : ℕ) → is_among n ms ≡ true → is_among n ns ≡ true)
      → IsRight by start k log (new_view start k' ns) → IsRight by start k log (new_view start k' ms)
  part_right start k log k' ns ms m there part right = record {
    first = refl;
    kind = right.kind;
    some_number = (m, there);
    small = λ n e. right.small n (part n e);
    seen = right.seen;
    within = refl;
    mine = none_of_part by ns ms part log right.mine;
    joined = tt;
  }

  pub splits_it : (start : Start) (id : ℕ) (k' : K) (i count : ℕ)
      → Splits (IsKept stands by kind start) id (new_view start k' (numbers_from i (suc (suc count)))) (new_view start k' (numbers_from (suc i) (suc count))) (new_view start k' (i ∷ []))
  splits_it start id k' i count s kept at = inr (by_open (is_open stands by kind start s id v k' kept at refl))
    where
      ns : List ℕ
      ns = numbers_from i (suc (suc count))

      ms : List ℕ
      ms = numbers_from (suc i) (suc count)

      v : Knows E K
      v = new_view start k' ns

      left : Knows E K
      left = new_view start k' ms

      right : Knows E K
      right = new_view start k' (i ∷ [])

      views : List (Knows E K)
      views = set s.views id left ++ right ∷ []

      all_parts : (P : ℕ → Knows E K → Type 0) → ((j : ℕ) (u : Knows E K) → j ≢ id → get_elem? s.views j ≡ some u → P j u) → P id left → P (length (set s.views id left)) right
          → (j : ℕ) (u : Knows E K) → get_elem? views j ≡ some u → P j u
      all_parts P others mine last = all_end P (set s.views id left) right (all_set P s.views id left others mine) last

      in_first : (n : ℕ) → is_among n (i ∷ []) ≡ true → is_among n ns ≡ true
      in_first n e = let same : n ≡ i = one_of n i e in subst (λ (x : ℕ). is_among x ns ≡ true) (sym same) (among_first i ms)

      not_both : (n : ℕ) → is_among n ms ≡ true → is_among n (i ∷ []) ≡ true → ⊥
      not_both n p q = let low = (among_from n (suc i) (suc count) p).0 in let same : n ≡ i = one_of n i q in omega (arith, low, same)

      -- where a view that has a number stood before, and whether it is the new one
      Origin : ℕ → Knows E K → Type 0
      Origin j u = ((j ≢ id) × (get_elem? s.views j ≡ some u)) ⊎ (((j ≡ id) × (u ≡ left)) ⊎ ((j ≡ length (set s.views id left)) × (u ≡ right)))

      origin : (j : ℕ) (u : Knows E K) → get_elem? views j ≡ some u → Origin j u
      origin = all_parts Origin (λ j u ne e. inl (ne, e)) (inr (inl (refl, refl))) (inr (inr (refl, refl)))

      apart_of : AreApart s.views → (a b : ℕ) (x y : Knows E K) (n : ℕ) → Origin a x → Origin b y → is_among n x.numbers ≡ true → is_among n y.numbers ≡ true → a ≡ b
      apart_of apart a b x y n (inl p) (inl q) f g = apart a b x y n p.1 q.1 f g
      apart_of apart a b x y n (inl p) (inr (inl q)) f g =
          absurd (p.0 (apart a id x v n p.1 at f (behind_first n i ms (subst (λ (u : Knows E K). is_among n u.numbers ≡ true) q.1 g))))
      apart_of apart a b x y n (inl p) (inr (inr q)) f g =
          absurd (p.0 (apart a id x v n p.1 at f (in_first n (subst (λ (u : Knows E K). is_among n u.numbers ≡ true) q.1 g))))
      apart_of apart a b x y n (inr (inl p)) (inl q) f g =
          absurd (q.0 (apart b id y v n q.1 at g (behind_first n i ms (subst (λ (u : Knows E K). is_among n u.numbers ≡ true) p.1 f))))
      apart_of apart a b x y n (inr (inr p)) (inl q) f g =
          absurd (q.0 (apart b id y v n q.1 at g (in_first n (subst (λ (u : Knows E K). is_among n u.numbers ≡ true) p.1 f))))
      apart_of apart a b x y n (inr (inl p)) (inr (inl q)) f g = p.0 ∙ sym q.0
      apart_of apart a b x y n (inr (inr p)) (inr (inr q)) f g = p.0 ∙ sym q.0
      apart_of apart a b x y n (inr (inl p)) (inr (inr q)) f g =
          absurd (not_both n (subst (λ (u : Knows E K). is_among n u.numbers ≡ true) p.1 f) (subst (λ (u : Knows E K). is_among n u.numbers ≡ true) q.1 g))
      apart_of apart a b x y n (inr (inr p)) (inr (inl q)) f g =
          absurd (not_both n (subst (λ (u : Knows E K). is_among n u.numbers ≡ true) q.1 g) (subst (λ (u : Knows E K). is_among n u.numbers ≡ true) p.1 f))

      by_open : IsOpen stands by kind start s → IsOpen stands by kind start record { words = s.words; homes = s.homes; views = views }
      by_open o =
          let was = right_of by start o.k o.log v k' refl (o.fits id v at) in record {
            log = o.log;
            k = o.k;
            named = o.named;
            fits = all_parts (λ j u. Fits by start o.k o.log u) (λ j u ne e. o.fits j u e)
                (inr (part_right start o.k o.log k' ns ms (suc i) (among_first (suc i) (numbers_from (suc (suc i)) count)) (λ n e. behind_first n i ms e) was))
                (inr (part_right start o.k o.log k' ns (i ∷ []) i (among_first i []) in_first was));
            apart = λ a b x y n p q f g. apart_of o.apart a b x y n (origin a x p) (origin b y q) f g;
            lock = ⊎_elim
                (λ f. inl record {
                  words = f.words;
                  value = f.value;
                  home = f.home;
                  stands_for = f.stands_for;
                  has_kind = f.has_kind;
                  free = all_parts (λ j u. u.holds ≡ false) (λ j u ne e. f.free j u e) refl refl;
                })
                (λ t. inr record {
                  words = t.words;
                  seat = t.seat;
                  view = t.view;
                  there = at_longer (set s.views id left) (right ∷ []) t.seat t.view (set_else s.views id t.seat left (not_here t) ∙ t.there);
                  holder = t.holder;
                  whole = t.whole;
                  settled = t.settled;
                  out = t.out;
                  alone = all_parts (λ j u. u.holds ≡ true → j ≡ t.seat) (λ j u ne e h. t.alone j u e h) (λ h. absurd (off h)) (λ h. absurd (off h));
                })
                o.lock;
          }
        where
          not_here : (t : IsTaken stands by kind start.first o.k o.log s) → t.seat ≢ id
          not_here t e =
              let same : t.view ≡ v = some-injective _ _ (sym t.there ∙ subst (λ (n : ℕ). get_elem? s.views n ≡ some v) (sym e) at) in
              off (sym (ap (λ (y : Knows E K). y.holds) same) ∙ t.holder)

  pub splits_as : (start : Start) (id : ℕ) (k' : K) (i count : ℕ) (me : Knows E K) → 2 ≤ count → me ≡ new_view start k' (numbers_from i count)
      → Splits (IsKept stands by kind start) id me (rest_of me) (first_of me)
  splits_as start id k' i zero me few is = absurd (omega (arith, few))
  splits_as start id k' i (suc zero) me few is = absurd (omega (arith, few))
  splits_as start id k' i (suc (suc count)) me few is =
      subst (λ (v : Knows E K). Splits (IsKept stands by kind start) id v (rest_of v) (first_of v)) (sym is) (splits_it start id k' i count)
