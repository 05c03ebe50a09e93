-- To take the lock, to add an entry and to give the lock back keep the rule.
use Rattle.std.proofs.Common.{◌≡◌, ◌≢◌, ℕ, zero, suc, ◌+◌, ◌%◌, ◌^◌, ◌<◌, ◌==◌, List, [], ◌∷◌, ◌++◌, length, Option, Some, None, Bool, true, false, refl, sym, ap, ◌∙◌, subst, inl, inr, ⊎_elim, arith, length-append}
use Rattle.std.specs.Prelude.{slice_index, not, ◌&&◌, is_some, IfSome}
use Rattle.std.proofs.Math.Nat.{mod-eq_of_lt}
use Rattle.std.proofs.lemmas.List.Elements.{All-append, All-cons, All-nil}
use mathlib.Core.Option.{some, none, some-injective}
use mathlib.Core.List.{IsPrefix}
use lib.ListN.{get_elem?}
use prog.Atomic.{either}
use Rattle.atomic_table.specs.Table.{State, Me, Act, keeps, takes, gives, Valid, stepped, carried_after, Allows}
use Rattle.atomic_table.proofs.Lists.{set_again}
use Rattle.ident_rules.specs.Owned.{is_among}
use Rattle.history_lock.specs.declared.rule.Knows.{Knows}
use Rattle.history_lock.specs.declared.rule.Start.{Start}
use Rattle.history_lock.specs.Views.{blank, fetched, is_idle, taken_view, more_view, free_view}
use Rattle.history_lock.specs.Rule.{Fits, IsJoined, IsFree, IsTaken, IsOpen, IsKept}
use Rattle.history_lock.specs.Told.{Taken, Given, Raised}
use Rattle.history_lock.proofs.Histories.{off, prefix_self, prefix_more, own_more, none_more}
use Rattle.history_lock.proofs.Passing.{here, same_at, some_is, none_is_not, all_set, apart_set, right_of}

small_mod : (n : ℕ) → n < 2 ^ 64 → n % 2 ^ 64 ≡ n
small_mod n h = mod-eq_of_lt h

module _ {T E K : Type 0} (stands : T → ℕ → List E → Type 0) (by : E → ℕ) (kind : T → K) where
  S : Type 0
  S = State (Option T) (Knows E K)

  -- a table that has views of seats with a kind is open
  pub is_open : (start : Start) (s : State (Option T) (Knows E K)) (id : ℕ) (v : Knows E K) (k : K) → IsKept stands by kind start s → get_elem? s.views id ≡ some v → v.kind ≡ Some k → IsOpen stands by kind start s
  is_open start s id v k (inr o) at is = o
  is_open start s id v k (inl new) at is =
      absurd (⊎_elim (λ t. no_kind (blank start) refl id (subst (λ l. get_elem? l id ≡ some v) t.1 at)) (λ t. no_kind (fetched start) refl id (subst (λ l. get_elem? l id ≡ some v) t.1 at)) new.stage)
    where
      no_kind : (u : Knows E K) → u.kind ≡ None → (i : ℕ) → get_elem? (u ∷ []) i ≡ some v → ⊥
      no_kind u none_there zero e = none_is_not k (sym none_there ∙ ap (λ (x : Knows E K). x.kind) (some-injective _ _ e) ∙ is)
      no_kind u none_there (suc i) e = cc e

  -- ---- take

  abbrev TakeGoal : Start → ℕ → Knows E K → State (Option T) (Knows E K) → Type 0
  TakeGoal start id v s' =
      (w : Knows E K) × (a : Act (Option T)) × Valid s'.homes [] a × IsKept stands by kind start (stepped s' 0 (either (slice_index s'.words 0 == 0) 1 (slice_index s'.words 0)) id [] w a)
      × Taken stands by kind (v, []) (slice_index s'.words 0) (w, carried_after [] a)

  -- the lock is taken where it is free, and else nothing changes
  takes_it : (start : Start) (slots id : ℕ) (v : Knows E K) (k : K) → v.kind ≡ Some k → v.holds ≡ false
      → Allows (IsKept stands by kind start) slots id (v, []) 0 (λ n. either (n == 0) 1 n) (Taken stands by kind (v, []))
  takes_it start slots id v k is idle s kept len at lt = by_lock (is_open start s id v k kept at is)
    where
      by_free : (o : IsOpen stands by kind start s) → IsFree stands by kind start.first o.k o.log s → TakeGoal start id v s
      by_free o f =
          let w = taken_view v o.log in
          let right = right_of by start o.k o.log v k is (o.fits id v at) in
          let s0 : State (Option T) (Knows E K) = record { words = 0 ∷ (start.first + length o.log) ∷ []; homes = some (Some f.value) ∷ []; views = s.views } in
          let path : s0 ≡ s = λ i. record { words = sym f.words i; homes = sym f.home i; views = s.views } in
          subst (TakeGoal start id v) path (
            w,
            takes 0 (Some f.value),
            refl,
            inr record {
              log = o.log;
              k = o.k;
              named = o.named;
              fits = all_set (λ j u. Fits by start o.k o.log u) s.views id w (λ j u ne e. o.fits j u e)
                  (inr record { first = right.first; kind = right.kind; some_number = right.some_number; small = right.small; seen = prefix_self o.log; within = right.mine; mine = right.mine; joined = tt });
              apart = apart_set s.views id v w at refl o.apart;
              lock = inr record {
                words = refl;
                seat = id;
                view = w;
                there = here s.views id v w at;
                holder = refl;
                whole = refl;
                settled = refl;
                out = refl;
                alone = all_set (λ j u. u.holds ≡ true → j ≡ id) s.views id w (λ j u ne e h. absurd (off (sym (f.free j u e) ∙ h))) (λ h. refl);
              };
            },
            record {
              log = o.log;
              value = f.value;
              view = refl;
              seen = right.seen;
              mine = right.mine;
              out = refl;
              stands_for = subst (λ n. stands f.value n o.log) (sym right.first) f.stands_for;
              has_kind = right.kind ∙ ap Some (sym f.has_kind);
            },
          )

      by_taken : (o : IsOpen stands by kind start s) → IsTaken stands by kind start.first o.k o.log s → TakeGoal start id v s
      by_taken o t =
          let s0 : State (Option T) (Knows E K) = record { words = 1 ∷ (start.first + length o.log) ∷ []; homes = s.homes; views = s.views } in
          let path : s0 ≡ s = λ i. record { words = sym t.words i; homes = s.homes; views = s.views } in
          let same : s ≡ stepped s0 0 1 id [] v keeps = λ i. record { words = t.words i; homes = s.homes; views = sym (set_again s.views id v at) i } in
          subst (TakeGoal start id v) path (v, keeps, tt, subst (IsKept stands by kind start) same kept, (refl, refl))

      by_lock : IsOpen stands by kind start s → TakeGoal start id v s
      by_lock o = ⊎_elim (by_free o) (by_taken o) o.lock

  idle_by : (v : Knows E K) (h : Bool) (k : Option K) → v.holds ≡ h → v.kind ≡ k → (not h && is_some k) ≡ true → (v.holds ≡ false) × ((k' : K) × (v.kind ≡ Some k'))
  idle_by v true k p q e = absurd (off e)
  idle_by v false None p q e = absurd (off e)
  idle_by v false (Some k) p q e = (p, (k, q))

  pub idle_parts : (v : Knows E K) → is_idle v ≡ true → (v.holds ≡ false) × ((k : K) × (v.kind ≡ Some k))
  idle_parts v e = idle_by v v.holds v.kind refl refl e

  pub takes_as : (start : Start) (slots id : ℕ) (me : Me (Option T) (Knows E K)) → is_idle me.0 ≡ true → me.1 ≡ []
      → Allows (IsKept stands by kind start) slots id me 0 (λ n. either (n == 0) 1 n) (Taken stands by kind me)
  takes_as start slots id me idle empty =
      let i = idle_parts me.0 idle in
      let path : me ≡ (me.0, []) = λ j. (me.0, empty j) in
      subst (λ (m : Me (Option T) (Knows E K)). Allows (IsKept stands by kind start) slots id m 0 (λ n. either (n == 0) 1 n) (Taken stands by kind m)) (sym path) (takes_it start slots id me.0 i.1.0 i.1.1 i.0)

  -- ---- give

  abbrev GiveGoal : Start → ℕ → Knows E K → T → State (Option T) (Knows E K) → Type 0
  GiveGoal start id v x s' =
      (w : Knows E K) × (a : Act (Option T)) × Valid s'.homes ((0, Some x) ∷ []) a × IsKept stands by kind start (stepped s' 0 0 id ((0, Some x) ∷ []) w a)
      × Given (v, (0, Some x) ∷ []) (w, carried_after ((0, Some x) ∷ []) a)

  -- the holder gives the lock back with a value that stands for what it has seen
  gives_it : (start : Start) (slots id : ℕ) (v : Knows E K) (k : K) (x : T) → v.kind ≡ Some k → v.holds ≡ true → stands x v.first v.seen → kind x ≡ k
      → Allows (IsKept stands by kind start) slots id (v, (0, Some x) ∷ []) 0 (λ _. 0) (λ _. Given (v, (0, Some x) ∷ []))
  gives_it start slots id v k x is holding stands_for has_kind s kept len at lt = by_lock (is_open start s id v k kept at is)
    where
      by_taken : (o : IsOpen stands by kind start s) → IsTaken stands by kind start.first o.k o.log s → GiveGoal start id v x s
      by_taken o t =
          let w = free_view v in
          let right = right_of by start o.k o.log v k is (o.fits id v at) in
          let mine : id ≡ t.seat = t.alone id v at holding in
          let same : v ≡ t.view = same_at s.views t.seat v t.view (subst (λ n. get_elem? s.views n ≡ some v) mine at) t.there in
          let whole : v.seen ≡ o.log = ap (λ (y : Knows E K). y.seen) same ∙ t.whole in
          let s0 : State (Option T) (Knows E K) = record { words = 1 ∷ (start.first + length o.log) ∷ []; homes = none ∷ []; views = s.views } in
          let path : s0 ≡ s = λ i. record { words = sym t.words i; homes = sym t.out i; views = s.views } in
          subst (GiveGoal start id v x) path (
            w,
            gives,
            tt,
            inr record {
              log = o.log;
              k = o.k;
              named = o.named;
              fits = all_set (λ j u. Fits by start o.k o.log u) s.views id w (λ j u ne e. o.fits j u e)
                  (inr record { first = right.first; kind = right.kind; some_number = right.some_number; small = right.small; seen = right.seen; within = right.within; mine = right.mine; joined = settled t same });
              apart = apart_set s.views id v w at refl o.apart;
              lock = inl record {
                words = refl;
                value = x;
                home = refl;
                stands_for = subst (λ (n : ℕ). stands x n o.log) right.first (subst (λ l. stands x v.first l) whole stands_for);
                has_kind = has_kind ∙ some_is k o.k (sym is ∙ right.kind);
                free = all_set (λ j u. u.holds ≡ false) s.views id w (λ j u ne e. not_held t mine j u ne e) refl;
              };
            },
            (refl, refl),
          )
        where
          settled : {k' : K} {log : List E} → (t : IsTaken stands by kind start.first k' log s) → v ≡ t.view → IfSome v.joined (IsJoined (free_view v))
          settled t same = subst (λ j. IfSome j (IsJoined (free_view v))) (sym (ap (λ (y : Knows E K). y.joined) same ∙ t.settled)) tt

          by_bool : {k' : K} {log : List E} → (t : IsTaken stands by kind start.first k' log s) → id ≡ t.seat → (j : ℕ) (u : Knows E K) → j ≢ id → get_elem? s.views j ≡ some u → (b : Bool) → u.holds ≡ b → u.holds ≡ false
          by_bool t mine j u ne e true h = absurd (ne (t.alone j u e h ∙ sym mine))
          by_bool t mine j u ne e false h = h

          not_held : {k' : K} {log : List E} → (t : IsTaken stands by kind start.first k' log s) → id ≡ t.seat → (j : ℕ) (u : Knows E K) → j ≢ id → get_elem? s.views j ≡ some u → u.holds ≡ false
          not_held t mine j u ne e = by_bool t mine j u ne e u.holds refl

      by_lock : IsOpen stands by kind start s → GiveGoal start id v x s
      by_lock o = ⊎_elim (λ f. absurd (off (sym (f.free id v at) ∙ holding))) (by_taken o) o.lock

  pub gives_as : (start : Start) (slots id : ℕ) (me : Me (Option T) (Knows E K)) (x : T) → me.1 ≡ (0, Some x) ∷ [] → me.0.kind ≡ Some (kind x) → me.0.holds ≡ true → stands x me.0.first me.0.seen
      → Allows (IsKept stands by kind start) slots id me 0 (λ _. 0) (λ _. Given me)
  gives_as start slots id me x out is holding stands_for =
      let path : me ≡ (me.0, (0, Some x) ∷ []) = λ j. (me.0, out j) in
      subst (λ (m : Me (Option T) (Knows E K)). Allows (IsKept stands by kind start) slots id m 0 (λ _. 0) (λ _. Given m)) (sym path) (gives_it start slots id me.0 (kind x) x is holding stands_for refl)

  -- ---- raise

  abbrev RaiseGoal : Start → ℕ → Knows E K → List (ℕ × Option T) → List E → State (Option T) (Knows E K) → Type 0
  RaiseGoal start id v c es s' =
      (w : Knows E K) × (a : Act (Option T)) × Valid s'.homes c a × IsKept stands by kind start (stepped s' 1 ((slice_index s'.words 1 + 1) % 2 ^ 64) id c w a)
      × Raised es (v, c) (w, carried_after c a)

  -- the holder adds its entry
  raises_it : (start : Start) (slots id : ℕ) (v : Knows E K) (c : List (ℕ × Option T)) (k : K) (e : E) → v.kind ≡ Some k → v.holds ≡ true → is_among (by e) v.numbers ≡ true → v.first + length v.seen < 2 ^ 62
      → Allows (IsKept stands by kind start) slots id (v, c) 1 (λ n. (n + 1) % 2 ^ 64) (λ _. Raised (e ∷ []) (v, c))
  raises_it start slots id v c k e is holding own room s kept len at lt = by_lock (is_open start s id v k kept at is)
    where
      counts : (n : ℕ) → n ≡ v.first + length v.seen → (n + 1) % 2 ^ 64 ≡ n + 1
      counts n h = small_mod (n + 1) (omega arith)

      by_bool : (o : IsOpen stands by kind start s) → (j : ℕ) (u : Knows E K) → j ≢ id → get_elem? s.views j ≡ some u → (b : Bool) → is_among (by e) u.numbers ≡ b → is_among (by e) u.numbers ≡ false
      by_bool o j u ne at' true h = absurd (ne (o.apart j id u v (by e) at' at h own))
      by_bool o j u ne at' false h = h

      others : (o : IsOpen stands by kind start s) → (j : ℕ) (u : Knows E K) → j ≢ id → get_elem? s.views j ≡ some u → Fits by start o.k o.log u → Fits by start o.k (o.log ++ e ∷ []) u
      others o j u ne at' (inl same) = inl same
      others o j u ne at' (inr f) = inr record {
        first = f.first;
        kind = f.kind;
        some_number = f.some_number;
        small = f.small;
        seen = prefix_more u.seen o.log (e ∷ []) f.seen;
        within = f.within;
        mine = none_more by u.numbers e o.log (by_bool o j u ne at' (is_among (by e) u.numbers) refl) ∙ f.mine;
        joined = f.joined;
      }

      by_taken : (o : IsOpen stands by kind start s) → IsTaken stands by kind start.first o.k o.log s → RaiseGoal start id v c (e ∷ []) s
      by_taken o t =
          let w = more_view v (e ∷ []) in
          let right = right_of by start o.k o.log v k is (o.fits id v at) in
          let log' = o.log ++ e ∷ [] in
          let mine : id ≡ t.seat = t.alone id v at holding in
          let same : v ≡ t.view = same_at s.views t.seat v t.view (subst (λ n. get_elem? s.views n ≡ some v) mine at) t.there in
          let whole : v.seen ≡ o.log = ap (λ (y : Knows E K). y.seen) same ∙ t.whole in
          let unjoined : v.joined ≡ None = ap (λ (y : Knows E K). y.joined) same ∙ t.settled in
          let s0 : State (Option T) (Knows E K) = record { words = 1 ∷ (start.first + length o.log) ∷ []; homes = none ∷ []; views = s.views } in
          let path : s0 ≡ s = λ i. record { words = sym t.words i; homes = sym t.out i; views = s.views } in
          subst (RaiseGoal start id v c (e ∷ [])) path (
            w,
            keeps,
            tt,
            inr record {
              log = log';
              k = o.k;
              named = All-append (λ x. by x < start.passes) o.log (e ∷ []) o.named (All-cons (λ x. by x < start.passes) e [] (right.small (by e) own) (All-nil (λ x. by x < start.passes)));
              fits = all_set (λ j u. Fits by start o.k log' u) s.views id w (λ j u ne at'. others o j u ne at' (o.fits j u at'))
                  (inr record {
                    first = right.first;
                    kind = right.kind;
                    some_number = right.some_number;
                    small = right.small;
                    seen = subst (λ l. IsPrefix (v.seen ++ e ∷ []) (l ++ e ∷ [])) whole (prefix_self (v.seen ++ e ∷ []));
                    within = own_more by v.numbers e v.seen own ∙ ap (λ l. l ++ e ∷ []) right.within;
                    mine = own_more by v.numbers e o.log own ∙ ap (λ l. l ++ e ∷ []) right.mine;
                    joined = subst (λ j. IfSome j (IsJoined w)) (sym unjoined) tt;
                  });
              apart = apart_set s.views id v w at refl o.apart;
              lock = inr record {
                words = ap (λ (n : ℕ). 1 ∷ n ∷ []) (counts (start.first + length o.log) (ap (λ n. n + length o.log) (sym right.first) ∙ ap (λ (l : List E). v.first + length l) (sym whole)) ∙ omega (arith, length-append o.log (e ∷ [])));
                seat = id;
                view = w;
                there = here s.views id v w at;
                holder = holding;
                whole = ap (λ l. l ++ e ∷ []) whole;
                settled = unjoined;
                out = refl;
                alone = all_set (λ j u. u.holds ≡ true → j ≡ id) s.views id w (λ j u ne at' h. t.alone j u at' h ∙ sym mine) (λ h. refl);
              };
            },
            (refl, refl),
          )

      by_lock : IsOpen stands by kind start s → RaiseGoal start id v c (e ∷ []) s
      by_lock o = ⊎_elim (λ f. absurd (off (sym (f.free id v at) ∙ holding))) (by_taken o) o.lock

  pub raises_as : (start : Start) (slots id : ℕ) (me : Me (Option T) (Knows E K)) (es : List E) (e : E) (k : K) → es ≡ e ∷ [] → me.0.kind ≡ Some k → me.0.holds ≡ true → is_among (by e) me.0.numbers ≡ true → me.0.first + length me.0.seen < 2 ^ 62
      → Allows (IsKept stands by kind start) slots id me 1 (λ n. (n + 1) % 2 ^ 64) (λ _. Raised es me)
  raises_as start slots id me es e k one is holding own room =
      subst (λ l. Allows (IsKept stands by kind start) slots id me 1 (λ n. (n + 1) % 2 ^ 64) (λ _. Raised l me)) (sym one) (raises_it start slots id me.0 me.1 k e is holding own room)
