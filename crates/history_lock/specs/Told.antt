-- What the steps of a history lock tell the pass that makes them.
use Rattle.std.specs.Prelude.{◌≡◌, ℕ, ◌==◌, List, [], ◌∷◌, Option, Some, None, true, false, IfSome, MatchBool}
use mathlib.Core.List.{IsPrefix}
use Rattle.atomic_table.specs.Table.{Me}
use Rattle.ident_rules.specs.Owned.{entries_by}
use Rattle.history_lock.specs.declared.rule.Knows.{Knows}
use Rattle.history_lock.specs.Rule.{IsJoined}
use Rattle.history_lock.specs.Views.{taken_view, more_view, free_view}

module _ {T E K : Type 0} where
  abbrev pub Fetched : Me (Option T) (Knows E K) → Me (Option T) (Knows E K) → Type 0
  Fetched me now = (now.0 ≡ record me.0 { holds = true }) × (now.1 ≡ (0, None) ∷ [])

  abbrev pub Opened : (T → K) → Me (Option T) (Knows E K) → Me (Option T) (Knows E K) → Type 0
  Opened kind me now = (x : T) × (me.1 ≡ (0, Some x) ∷ []) × (now.0 ≡ record me.0 { holds = false; kind = Some (kind x) }) × (now.1 ≡ [])

  -- where the lock was free: the list for which the value stands, which begins with what the pass had seen
  pub record Takes (stands : T → ℕ → List E → Type 0) (by : E → ℕ) (kind : T → K) (me now : Me (Option T) (Knows E K)) : Type 0 where
    pub log : List E
    pub value : T
    pub view : now.0 ≡ taken_view me.0 log
    pub seen : IsPrefix me.0.seen log
    pub mine : entries_by by me.0.numbers log ≡ me.0.mine
    pub out : now.1 ≡ (0, Some value) ∷ []
    pub stands_for : stands value me.0.first log
    pub has_kind : me.0.kind ≡ Some (kind value)

  abbrev pub Taken : (T → ℕ → List E → Type 0) → (E → ℕ) → (T → K) → Me (Option T) (Knows E K) → ℕ → Me (Option T) (Knows E K) → Type 0
  Taken stands by kind me n now = MatchBool (n == 0) (Takes stands by kind me now) ((now.0 ≡ me.0) × (now.1 ≡ []))

  abbrev pub Given : Me (Option T) (Knows E K) → Me (Option T) (Knows E K) → Type 0
  Given me now = (now.0 ≡ free_view me.0) × (now.1 ≡ [])

  abbrev pub Raised : List E → Me (Option T) (Knows E K) → Me (Option T) (Knows E K) → Type 0
  Raised es me now = (now.0 ≡ more_view me.0 es) × (now.1 ≡ me.1)

  -- what the join came to
  abbrev pub Settled : Me (Option T) (Knows E K) → Me (Option T) (Knows E K) → Type 0
  Settled me now = (now.0 ≡ me.0) × (now.1 ≡ me.1) × IfSome me.0.joined (IsJoined me.0)
