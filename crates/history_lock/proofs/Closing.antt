-- Where one pass has all numbers, the lock is free, and its value stands for what the pass has seen.
use Rattle.std.proofs.Common.{◌≡◌, ℕ, ◌+◌, ◌<◌, List, [], ◌∷◌, ◌++◌, length, Option, Some, true, false, sym, ap, ◌∙◌, subst, ⊎_elim, append-nil}
use Rattle.std.specs.Prelude.{All}
use Rattle.std.proofs.lemmas.List.Elements.{All-tail}
use mathlib.Core.Option.{some, none}
use lib.ListN.{get_elem?}
use mathlib.Core.Option as m
use Rattle.atomic_table.specs.Table.{State, Final, Seen}
use Rattle.ident_rules.specs.Owned.{is_among}
use Rattle.history_lock.specs.declared.rule.Knows.{Knows}
use Rattle.history_lock.specs.declared.rule.Start.{Start}
use Rattle.history_lock.specs.Views.{is_idle}
use Rattle.history_lock.specs.Rule.{IsFree, IsTaken, IsOpen, IsKept}
use Rattle.history_lock.proofs.Histories.{off, all_of, none_behind, all_own}
use Rattle.history_lock.proofs.Passing.{same_at, right_of, right_holder}
use Rattle.history_lock.proofs.Keeping.{is_open, idle_parts}

module _ {A : Type 0} where
  all_behind : (P : A → Type 0) (xs ys : List A) → All P (xs ++ ys) → All P ys
  all_behind P [] ys a = a
  all_behind P (x ∷ xs) ys a = all_behind P xs ys (All-tail P x (xs ++ ys) a)

module _ {T E K : Type 0} (stands : T → ℕ → List E → Type 0) (by : E → ℕ) (kind : T → K) where
  -- what is left behind
  pub record Ends (start : Start) (v : Knows E K) (s : State (Option T) (Knows E K)) : Type 0 where
    pub value : T
    pub home : s.homes ≡ some (Some value) ∷ []
    pub words : s.words ≡ 0 ∷ (start.first + length v.seen) ∷ []
    pub stands_for : stands value v.first v.seen
    pub has_kind : v.kind ≡ Some (kind value)
    pub mine : v.mine ≡ v.seen

  pub ends_of : (start : Start) (id : ℕ) (v : Knows E K) → is_idle v ≡ true → ((n : ℕ) → n < start.passes → is_among n v.numbers ≡ true)
      → (s : State (Option T) (Knows E K)) → IsKept stands by kind start s → get_elem? s.views id ≡ some v → Ends start v s
  ends_of start id v idle all s kept at = by_lock (is_open stands by kind start s id v parts.1.0 kept at parts.1.1)
    where
      parts : (v.holds ≡ false) × ((k : K) × (v.kind ≡ Some k))
      parts = idle_parts stands by kind v idle

      by_taken : (o : IsOpen stands by kind start s) → IsTaken stands by kind start.first o.k o.log s → Ends start v s
      by_taken o t =
          let holder = right_holder by start o.k o.log t.view t.holder (o.fits t.seat t.view t.there) in
          let n = holder.some_number in
          let here : id ≡ t.seat = o.apart id t.seat v t.view n.0 at t.there (all n.0 (holder.small n.0 n.1)) n.1 in
          let same : v ≡ t.view = same_at s.views t.seat v t.view (subst (λ (m : ℕ). get_elem? s.views m ≡ some v) here at) t.there in
          absurd (off (sym parts.0 ∙ ap (λ (y : Knows E K). y.holds) same ∙ t.holder))

      by_free : (o : IsOpen stands by kind start s) → IsFree stands by kind start.first o.k o.log s → Ends start v s
      by_free o f =
          let right = right_of by start o.k o.log v parts.1.0 parts.1.1 (o.fits id v at) in
          let owns : All (λ e. is_among (by e) v.numbers ≡ true) o.log = all_of (λ e. by e < start.passes) (λ e. is_among (by e) v.numbers ≡ true) (λ e small. all (by e) small) o.log o.named in
          let rest = right.seen.0 in
          let owns_rest = all_behind (λ e. is_among (by e) v.numbers ≡ true) v.seen rest (subst (All (λ e. is_among (by e) v.numbers ≡ true)) (sym right.seen.1) owns) in
          let none : rest ≡ [] = sym (all_own by v.numbers rest owns_rest) ∙ none_behind by v.numbers v.seen rest o.log v.mine right.seen.1 right.within right.mine in
          let whole : v.seen ≡ o.log = sym (append-nil v.seen) ∙ ap (λ l. v.seen ++ l) (sym none) ∙ right.seen.1 in
          record {
            value = f.value;
            home = f.home;
            words = f.words ∙ ap (λ (l : List E). 0 ∷ (start.first + length l) ∷ []) (sym whole);
            stands_for = subst (λ (n : ℕ). stands f.value n v.seen) (sym right.first) (subst (λ (l : List E). stands f.value start.first l) (sym whole) f.stands_for);
            has_kind = right.kind ∙ ap Some (sym f.has_kind);
            mine = sym right.mine ∙ all_own by v.numbers o.log owns ∙ sym whole;
          }

      by_lock : IsOpen stands by kind start s → Ends start v s
      by_lock o = ⊎_elim (by_free o) (by_taken o) o.lock

  -- what is found in the table once it is closed
  pub record Found (start : Start) (v : Knows E K) (ws : List ℕ) (xs : List (Option T)) : Type 0 where
    pub value : T
    pub taken : get_elem? xs 0 ≡ some (Some value)
    pub last : get_elem? ws 1 ≡ some (start.first + length v.seen)
    pub stands_for : stands value v.first v.seen
    pub has_kind : v.kind ≡ Some (kind value)
    pub mine : v.mine ≡ v.seen

  pub found_in : (start : Start) (id : ℕ) (v : Knows E K) (ws : List ℕ) (xs : List (Option T)) → is_idle v ≡ true → ((n : ℕ) → n < start.passes → is_among n v.numbers ≡ true)
      → Final (Seen (IsKept stands by kind start) id v) ws xs → Found start v ws xs
  found_in start id v ws xs idle all f =
      let e = ends_of start id v idle all f.0 f.1.0 f.1.1 in record {
        value = e.value;
        taken = f.4 0 (Some e.value) (ap (λ (l : List (m.Option (Option T))). get_elem? l 0) e.home);
        last = ap (λ (l : List ℕ). get_elem? l 1) (sym f.2 ∙ e.words);
        stands_for = e.stands_for;
        has_kind = e.has_kind;
        mine = e.mine;
      }
