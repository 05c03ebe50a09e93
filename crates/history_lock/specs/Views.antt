-- What a pass knows, and how each step changes it.
use Rattle.std.specs.Prelude.{ℕ, zero, suc, ◌+◌, List, [], ◌∷◌, ◌++◌, length, Some, None, Bool, true, false, ◌&&◌, not, is_some}
use Rattle.atomic_table.specs.Seated.{TableId}
use Rattle.ident_rules.specs.Owned.{entries_by}
use Rattle.history_lock.specs.declared.rule.Knows.{Knows}
use Rattle.history_lock.specs.declared.rule.Start.{Start}

-- so many numbers, from one on
abbrev pub numbers_from : ℕ → ℕ → List ℕ
numbers_from i zero = []
numbers_from i (suc n) = i ∷ numbers_from (suc i) n

abbrev pub first_number : List ℕ → List ℕ
first_number [] = []
first_number (n ∷ ns) = n ∷ []

abbrev pub other_numbers : List ℕ → List ℕ
other_numbers [] = []
other_numbers (n ∷ ns) = ns

-- the longer of two lists, of which one begins with the other
abbrev pub longer : {E : Type 0} → List E → List E → List E
longer [] ys = ys
longer (x ∷ xs) [] = x ∷ xs
longer (x ∷ xs) (y ∷ ys) = x ∷ longer xs ys

-- what contracts see of a pass: its lock, its view, and the least of its numbers
pub record PassState (E K : Type 0) : Type 0 where
  pub lock : TableId
  pub view : Knows E K
  pub number : ℕ

-- what they see of a lock: its own name, and how it began
pub record LockState : Type 0 where
  pub name : TableId
  pub start : Start

-- what they see of a value that is held
pub record HeldState (T E K : Type 0) : Type 0 where
  pub lock : TableId
  pub view : Knows E K
  pub number : ℕ
  pub value : T

module _ {E K : Type 0} where
  -- before there is a value
  abbrev pub blank : Start → Knows E K
  blank start =
      record { holds = false; first = start.first; kind = None; numbers = numbers_from 0 start.passes; seen = []; mine = []; joined = None }

  abbrev pub fetched : Start → Knows E K
  fetched start =
      record { holds = true; first = start.first; kind = None; numbers = numbers_from 0 start.passes; seen = []; mine = []; joined = None }

  -- a pass that was joined to another
  abbrev pub spent : Knows E K
  spent = record { holds = false; first = 0; kind = None; numbers = []; seen = []; mine = []; joined = None }

  -- a pass with these numbers that has seen nothing
  abbrev pub new_view : Start → K → List ℕ → Knows E K
  new_view start k numbers =
      record { holds = false; first = start.first; kind = Some k; numbers = numbers; seen = []; mine = []; joined = None }

  -- it holds nothing, and its lock is open
  abbrev pub is_idle : Knows E K → Bool
  is_idle v = not v.holds && is_some v.kind

  -- the lock is taken, which stands for this list
  abbrev pub taken_view : Knows E K → List E → Knows E K
  taken_view v log = record v { holds = true; seen = log; joined = None }

  -- the entries join
  abbrev pub more_view : Knows E K → List E → Knows E K
  more_view v es = record v { seen = v.seen ++ es; mine = v.mine ++ es }

  abbrev pub free_view : Knows E K → Knows E K
  free_view v = record v { holds = false }

  -- the first number goes to a pass of its own
  abbrev pub first_of : Knows E K → Knows E K
  first_of v = record v { numbers = first_number v.numbers }

  abbrev pub rest_of : Knows E K → Knows E K
  rest_of v = record v { numbers = other_numbers v.numbers }

  -- two passes become one, which keeps what both had seen and how many entries were theirs
  abbrev pub both_views : (E → ℕ) → Knows E K → Knows E K → Knows E K
  both_views by v w = record v {
    numbers = v.numbers ++ w.numbers;
    seen = longer v.seen w.seen;
    mine = entries_by by (v.numbers ++ w.numbers) (longer v.seen w.seen);
    joined = Some (record { one = v.seen; other = w.seen; entries = length v.mine + length w.mine });
  }
