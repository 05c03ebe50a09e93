-- The rule of a history lock: what holds of its words, its place and the views of all passes between any two steps.
-- The first word is 0 where the lock is free, 1 where a pass holds it, and 2 before its value is there. The second is the number of the
-- last entry.
use Rattle.std.specs.Prelude.{◌≡◌, ℕ, ◌+◌, ◌<◌, List, [], ◌∷◌, length, Option, Some, None, true, false, ◌⊎◌, IfSome, All}
use mathlib.Core.Option.{some, none}
use mathlib.Core.List.{IsPrefix}
use lib.ListN.{get_elem?}
use Rattle.atomic_table.specs.Table.{State}
use Rattle.ident_rules.specs.Owned.{is_among, entries_by}
use Rattle.history_lock.specs.declared.rule.Knows.{Knows}
use Rattle.history_lock.specs.declared.rule.Joined.{Joined}
use Rattle.history_lock.specs.declared.rule.Start.{Start}
use Rattle.history_lock.specs.Views.{blank, fetched, spent}

module _ {E K : Type 0} where
  -- a joined pass has seen all that both had seen, and its entries are as many as theirs
  pub record IsJoined (v : Knows E K) (j : Joined E) : Type 0 where
    pub one : IsPrefix j.one v.seen
    pub other : IsPrefix j.other v.seen
    pub entries : length v.mine ≡ j.entries

  -- what a pass knows is right of the lock's history
  pub record IsRight (by : E → ℕ) (start : Start) (k : K) (log : List E) (v : Knows E K) : Type 0 where
    pub first : v.first ≡ start.first
    pub kind : v.kind ≡ Some k
    pub some_number : (n : ℕ) × (is_among n v.numbers ≡ true)
    pub small : (n : ℕ) → is_among n v.numbers ≡ true → n < start.passes
    pub seen : IsPrefix v.seen log
    pub within : entries_by by v.numbers v.seen ≡ v.mine
    pub mine : entries_by by v.numbers log ≡ v.mine
    pub joined : IfSome v.joined (IsJoined v)

  abbrev pub Fits : (E → ℕ) → Start → K → List E → Knows E K → Type 0
  Fits by start k log v = (v ≡ spent) ⊎ IsRight by start k log v

  -- the numbers of passes differ
  abbrev pub AreApart : List (Knows E K) → Type 0
  AreApart views = (i j : ℕ) (v w : Knows E K) (n : ℕ)
      → get_elem? views i ≡ some v → get_elem? views j ≡ some w → is_among n v.numbers ≡ true → is_among n w.numbers ≡ true → i ≡ j

module _ {T E K : Type 0} (stands : T → ℕ → List E → Type 0) (by : E → ℕ) (kind : T → K) where
  -- no pass holds the lock, and the value in its place stands for the history
  pub record IsFree (first : ℕ) (k : K) (log : List E) (s : State (Option T) (Knows E K)) : Type 0 where
    pub words : s.words ≡ 0 ∷ (first + length log) ∷ []
    pub value : T
    pub home : s.homes ≡ some (Some value) ∷ []
    pub stands_for : stands value first log
    pub has_kind : kind value ≡ k
    pub free : (i : ℕ) (v : Knows E K) → get_elem? s.views i ≡ some v → v.holds ≡ false

  -- one pass holds the lock, and has seen the history
  pub record IsTaken (first : ℕ) (k : K) (log : List E) (s : State (Option T) (Knows E K)) : Type 0 where
    pub words : s.words ≡ 1 ∷ (first + length log) ∷ []
    pub seat : ℕ
    pub view : Knows E K
    pub there : get_elem? s.views seat ≡ some view
    pub holder : view.holds ≡ true
    pub whole : view.seen ≡ log
    pub settled : view.joined ≡ None
    pub out : s.homes ≡ none ∷ []
    pub alone : (i : ℕ) (v : Knows E K) → get_elem? s.views i ≡ some v → v.holds ≡ true → i ≡ seat

  -- there is a history: each entry has a number below that of passes, each pass is spent or right
  pub record IsOpen (start : Start) (s : State (Option T) (Knows E K)) : Type 0 where
    pub log : List E
    pub k : K
    pub named : All (λ e. by e < start.passes) log
    pub fits : (i : ℕ) (v : Knows E K) → get_elem? s.views i ≡ some v → Fits by start k log v
    pub apart : AreApart s.views
    pub lock : IsFree start.first k log s ⊎ IsTaken start.first k log s

  -- the lock is being made
  pub record IsNew (start : Start) (s : State (Option T) (Knows E K)) : Type 0 where
    pub words : s.words ≡ 2 ∷ start.first ∷ []
    pub stage : ((s.homes ≡ some None ∷ []) × (s.views ≡ blank start ∷ [])) ⊎ ((s.homes ≡ none ∷ []) × (s.views ≡ fetched start ∷ []))

  abbrev pub IsKept : Start → State (Option T) (Knows E K) → Type 0
  IsKept start s = IsNew start s ⊎ IsOpen start s
