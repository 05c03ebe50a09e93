-- To make one pass of two keeps the rule.
use Rattle.std.proofs.Common.{◌≡◌, ◌≢◌, ◌⊎◌, ℕ, ◌+◌, List, [], ◌∷◌, ◌++◌, length, set, Option, Some, true, false, refl, sym, ap, ◌∙◌, subst, inl, inr, ⊎_elim, arith}
use Rattle.std.specs.Prelude.{slice_index, All}
use Rattle.std.specs.Prelude.{min}
use Rattle.std.proofs.Math.Nat.{min-le_left, min-le_right}
use Rattle.std.proofs.Common.{◌≤◌}
use Rattle.std.proofs.Math.Dec.{eqb}
use Rattle.std.proofs.lemmas.Bool.Decides.{eqb_tells}
use Rattle.std.proofs.lemmas.List.Elements.{All-append}
use mathlib.Core.Option.{some, some-injective}
use lib.ListN.{get_elem?}
use Rattle.atomic_table.specs.Table.{State, Me, Act, keeps, Valid, stepped, carried_after, Joins, Allows}
use Rattle.atomic_table.proofs.Lists.{set_else, set_again}
use Rattle.ident_rules.specs.Owned.{is_among, entries_by}
use Rattle.history_lock.specs.declared.rule.Knows.{Knows}
use Rattle.history_lock.specs.declared.rule.Start.{Start}
use Rattle.history_lock.specs.Views.{spent, is_idle, longer, both_views}
use Rattle.history_lock.specs.Rule.{IsRight, Fits, AreApart, IsTaken, IsOpen, IsKept}
use Rattle.history_lock.specs.Told.{Settled}
use Rattle.history_lock.proofs.Histories.{off, longer_is, all_of, between, none_behind, none_both, behind, count_both}
use Rattle.history_lock.specs.Numbers.{among_either, among_left, among_right}
use Rattle.history_lock.proofs.Passing.{all_set, right_of}
use Rattle.history_lock.proofs.Keeping.{is_open, idle_parts}

module _ {T E K : Type 0} (stands : T → ℕ → List E → Type 0) (by : E → ℕ) (kind : T → K) where
  -- two right views with numbers that differ make a right one
  both_right : (start : Start) (k : K) (log : List E) (v w : Knows E K) → ((n : ℕ) → is_among n v.numbers ≡ true → is_among n w.numbers ≡ true → ⊥)
      → IsRight by start k log v → IsRight by start k log w → IsRight by start k log (both_views by v w)
  both_right start k log v w apart a b =
      let long = longer_is v.seen w.seen log a.seen b.seen in
      let middle = longer v.seen w.seen in
      let av = between by v.numbers v.seen middle log v.mine long.1 long.0 a.within a.mine in
      let bw = between by w.numbers w.seen middle log w.mine long.2 long.0 b.within b.mine in
      let rest = long.0 in
      let none_v = none_behind by v.numbers middle rest.0 log v.mine rest.1 av.0 a.mine in
      let none_w = none_behind by w.numbers middle rest.0 log w.mine rest.1 bw.0 b.mine in
      let none_vw = none_both by v.numbers w.numbers rest.0 none_v none_w in
      let counted = count_both by v.numbers w.numbers apart middle in
      record {
        first = a.first;
        kind = a.kind;
        some_number = (a.some_number.0, among_left a.some_number.0 v.numbers w.numbers a.some_number.1);
        small = λ n e. ⊎_elim (a.small n) (b.small n) (among_either n v.numbers w.numbers e);
        seen = long.0;
        within = refl;
        mine = ap (entries_by by (v.numbers ++ w.numbers)) (sym rest.1) ∙ behind by (v.numbers ++ w.numbers) middle rest.0 none_vw;
        joined = record { one = long.1; other = long.2; entries = counted ∙ (λ i. length (av.0 i) + length (bw.0 i)) };
      }

  joins_it : (start : Start) (id : ℕ) (v : Knows E K) (other : ℕ) (w : Knows E K) (k' k'' : K) → v.holds ≡ false → v.kind ≡ Some k' → w.holds ≡ false → w.kind ≡ Some k''
      → Joins (IsKept stands by kind start) id v other w (both_views by v w) spent
  joins_it start id v other w k' k'' v_free v_kind w_free w_kind s kept at apart_is at_other = inr (by_open (is_open stands by kind start s id v k' kept at v_kind))
    where
      both : Knows E K
      both = both_views by v w

      views : List (Knows E K)
      views = set (set s.views id both) other spent

      there : get_elem? s.views other ≡ some w
      there = sym (set_else s.views id other both apart_is) ∙ at_other

      all_both : (P : ℕ → Knows E K → Type 0) → ((j : ℕ) (u : Knows E K) → j ≢ id → j ≢ other → get_elem? s.views j ≡ some u → P j u) → P id both → P other spent
          → (j : ℕ) (u : Knows E K) → get_elem? views j ≡ some u → P j u
      all_both P others mine last =
          all_set P (set s.views id both) other spent
          (λ j u off' e. all_set (λ j' u'. j' ≢ other → P j' u') s.views id both (λ j' u' ne e' off''. others j' u' ne off'' e') (λ off''. mine) j u e off')
          last

      -- where a view stood before, or that it is one of the two
      Origin : ℕ → Knows E K → Type 0
      Origin j u = ((j ≢ id) × (j ≢ other) × (get_elem? s.views j ≡ some u)) ⊎ (((j ≡ id) × (u ≡ both)) ⊎ (u ≡ spent))

      origin : (j : ℕ) (u : Knows E K) → get_elem? views j ≡ some u → Origin j u
      origin = all_both Origin (λ j u ne off' e. inl (ne, off', e)) (inr (inl (refl, refl))) (inr (inr refl))

      none_of_spent : (n : ℕ) (u : Knows E K) → u ≡ spent → is_among n u.numbers ≡ true → ⊥
      none_of_spent n u e f = off (subst (λ (x : Knows E K). is_among n x.numbers ≡ true) e f)

      not_with_both : AreApart s.views → (a : ℕ) (x : Knows E K) (n : ℕ) → a ≢ id → a ≢ other → get_elem? s.views a ≡ some x → is_among n x.numbers ≡ true → (y : Knows E K) → y ≡ both → is_among n y.numbers ≡ true → ⊥
      not_with_both apart a x n ne off' e f y is g =
          ⊎_elim
          (λ h. ne (apart a id x v n e at f h))
          (λ h. off' (apart a other x w n e there f h))
          (among_either n v.numbers w.numbers (subst (λ (u : Knows E K). is_among n u.numbers ≡ true) is g))

      apart_of : AreApart s.views → (a b : ℕ) (x y : Knows E K) (n : ℕ) → Origin a x → Origin b y → is_among n x.numbers ≡ true → is_among n y.numbers ≡ true → a ≡ b
      apart_of apart a b x y n (inl p) (inl q) f g = apart a b x y n p.2 q.2 f g
      apart_of apart a b x y n (inl p) (inr (inl q)) f g = absurd (not_with_both apart a x n p.0 p.1 p.2 f y q.1 g)
      apart_of apart a b x y n (inr (inl p)) (inl q) f g = absurd (not_with_both apart b y n q.0 q.1 q.2 g x p.1 f)
      apart_of apart a b x y n (inr (inl p)) (inr (inl q)) f g = p.0 ∙ sym q.0
      apart_of apart a b x y n (inr (inr p)) q f g = absurd (none_of_spent n x p f)
      apart_of apart a b x y n p (inr (inr q)) f g = absurd (none_of_spent n y q g)

      not_held : (first : ℕ) (k : K) (log : List E) → (t : IsTaken stands by kind first k log s) → (j : ℕ) (u : Knows E K) → get_elem? s.views j ≡ some u → u.holds ≡ false → t.seat ≢ j
      not_held first k log t j u e free is =
          let same : t.view ≡ u = some-injective _ _ (sym t.there ∙ subst (λ (n : ℕ). get_elem? s.views n ≡ some u) (sym is) e) in
          off (sym free ∙ sym (ap (λ (y : Knows E K). y.holds) same) ∙ t.holder)

      by_open : IsOpen stands by kind start s → IsOpen stands by kind start record { words = s.words; homes = s.homes; views = views }
      by_open o =
          let a = right_of by start o.k o.log v k' v_kind (o.fits id v at) in
          let b = right_of by start o.k o.log w k'' w_kind (o.fits other w there) in
          let differ : (n : ℕ) → is_among n v.numbers ≡ true → is_among n w.numbers ≡ true → ⊥ = λ n f g. apart_is (sym (o.apart id other v w n at there f g)) in record {
            log = o.log;
            k = o.k;
            named = o.named;
            fits = all_both (λ j u. Fits by start o.k o.log u) (λ j u ne off' e. o.fits j u e) (inr (both_right start o.k o.log v w differ a b)) (inl refl);
            apart = λ i j x y n p q f g. apart_of o.apart i j x y n (origin i x p) (origin j y q) f g;
            lock = ⊎_elim
                (λ f. inl record {
                  words = f.words;
                  value = f.value;
                  home = f.home;
                  stands_for = f.stands_for;
                  has_kind = f.has_kind;
                  free = all_both (λ j u. u.holds ≡ false) (λ j u ne off' e. f.free j u e) v_free refl;
                })
                (λ t. inr record {
                  words = t.words;
                  seat = t.seat;
                  view = t.view;
                  there = set_else (set s.views id both) other t.seat spent (not_held start.first o.k o.log t other w there w_free)
                      ∙ set_else s.views id t.seat both (not_held start.first o.k o.log t id v at v_free)
                      ∙ t.there;
                  holder = t.holder;
                  whole = t.whole;
                  settled = t.settled;
                  out = t.out;
                  alone = all_both (λ j u. u.holds ≡ true → j ≡ t.seat) (λ j u ne no e h. t.alone j u e h) (λ h. absurd (off (sym v_free ∙ h))) (λ h. absurd (off h));
                })
                o.lock;
          }

  pub joins_as : (start : Start) (id : ℕ) (v : Knows E K) (other : ℕ) (w : Knows E K) → is_idle v ≡ true → is_idle w ≡ true
      → Joins (IsKept stands by kind start) id v other w (both_views by v w) spent
  joins_as start id v other w v_idle w_idle =
      let a = idle_parts stands by kind v v_idle in
      let b = idle_parts stands by kind w w_idle in
      joins_it start id v other w a.1.0 b.1.0 a.0 a.1.1 b.0 b.1.1

  -- ---- the numbers of both

  min_is : (a b : ℕ) → (min a b ≡ a) ⊎ (min a b ≡ b)
  min_is a b = by_tells (eqb_tells (min a b) a)
    where
      by_tells : ((eqb (min a b) a ≡ true) × (min a b ≡ a)) ⊎ ((eqb (min a b) a ≡ false) × (min a b ≢ a)) → (min a b ≡ a) ⊎ (min a b ≡ b)
      by_tells (inl h) = inl h.1
      by_tells (inr h) = let ne = h.1 in inr (omega arith)

  -- what every pass is, where its number is the less of two
  pub pass_of_both : (v w u : Knows E K) (a b : ℕ) → u ≡ both_views by v w
      → (is_among a v.numbers ≡ true) × All (λ n. a ≤ n) v.numbers → (is_among b w.numbers ≡ true) × All (λ n. b ≤ n) w.numbers → is_idle v ≡ true
      → (is_among (min a b) u.numbers ≡ true) × All (λ n. min a b ≤ n) u.numbers × (is_idle u ≡ true)
  pass_of_both v w u a b is p q idle =
      subst (λ (x : Knows E K). (is_among (min a b) x.numbers ≡ true) × All (λ n. min a b ≤ n) x.numbers × (is_idle x ≡ true)) (sym is) (
        ⊎_elim
            (λ h. subst (λ (n : ℕ). is_among n (v.numbers ++ w.numbers) ≡ true) (sym h) (among_left a v.numbers w.numbers p.0))
            (λ h. subst (λ (n : ℕ). is_among n (v.numbers ++ w.numbers) ≡ true) (sym h) (among_right b v.numbers w.numbers q.0))
            (min_is a b),
        All-append (λ n. min a b ≤ n) v.numbers w.numbers
            (all_of (λ n. a ≤ n) (λ n. min a b ≤ n) (λ n h. let m = min-le_left a b in omega (arith, m, h)) v.numbers p.1)
            (all_of (λ n. b ≤ n) (λ n. min a b ≤ n) (λ n h. let m = min-le_right a b in omega (arith, m, h)) w.numbers q.1),
        idle,
      )

  -- ---- what a join came to

  abbrev SettleGoal : Start → ℕ → Me (Option T) (Knows E K) → State (Option T) (Knows E K) → Type 0
  SettleGoal start id me s' =
      (w : Knows E K) × (a : Act (Option T)) × Valid s'.homes me.1 a × IsKept stands by kind start (stepped s' 0 (slice_index s'.words 0) id me.1 w a) × Settled me (w, carried_after me.1 a)

  pub settles_as : (start : Start) (slots id : ℕ) (me : Me (Option T) (Knows E K)) (k' : K) → me.0.kind ≡ Some k'
      → Allows (IsKept stands by kind start) slots id me 0 (λ n. n) (λ _. Settled me)
  settles_as start slots id me k' is s kept len at lt = by_open (is_open stands by kind start s id me.0 k' kept at is)
    where
      by_words : (o : IsOpen stands by kind start s) → (x y : ℕ) → s.words ≡ x ∷ y ∷ [] → SettleGoal start id me s
      by_words o x y words =
          let s0 : State (Option T) (Knows E K) = record { words = x ∷ y ∷ []; homes = s.homes; views = s.views } in
          let path : s0 ≡ s = λ i. record { words = sym words i; homes = s.homes; views = s.views } in
          let same : s ≡ stepped s0 0 x id me.1 me.0 keeps = λ i. record { words = words i; homes = s.homes; views = sym (set_again s.views id me.0 at) i } in
          subst (SettleGoal start id me) path
          (me.0, keeps, tt, subst (IsKept stands by kind start) same kept, (refl, refl, (right_of by start o.k o.log me.0 k' is (o.fits id me.0 at)).joined))

      by_open : IsOpen stands by kind start s → SettleGoal start id me s
      by_open o = ⊎_elim (λ f. by_words o 0 (start.first + length o.log) f.words) (λ t. by_words o 1 (start.first + length o.log) t.words) o.lock
