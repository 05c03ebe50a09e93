-- Passes in the hands of threads.
use Rattle.std.specs.Prelude.{◌≡◌, ◌<◌, ◌≤◌, ℕ, List, length, true, ⊤, IfSome, IsSome}
use Rattle.ident_rules.specs.Owned.{is_among}
use Rattle.history_lock.specs.Making.{passes_from}
use Rattle.lock_runs.specs.declared.tallies.Made.{Made}
use Rattle.history_lock.specs.Views.{PassState, LockState}
use Rattle.lock_runs.specs.declared.turns.Turn.{Turn}

-- a pass of a lock whose history begins low enough
pub record IsOf {E K : Type 0} (lock : LockState) (pass : PassState E K) : Type 0 where
  pub lock_is : pass.lock ≡ lock.name
  pub first_is : pass.view.first ≡ 0

-- a turn that has a pass of the lock
pub record IsReady (lock : LockState) (turn : Turn) : Type 0 where
  pub pass : IsSome turn.pass
  pub of_lock : IfSome turn.pass (IsOf lock)

-- the kind of a tally, of which there is one
abbrev pub unit : ⊤
unit = tt

-- the passes that are left are the first so many, and this one has all further numbers
pub record Covers (lock : LockState) (made : List (PassState Made ⊤)) (whole : PassState Made ⊤) : Type 0 where
  pub left : made ≡ passes_from lock.name lock.start unit 0 (length made)
  pub first_is : lock.start.first ≡ 0
  pub has : (n : ℕ) → length made ≤ n → n < lock.start.passes → is_among n whole.view.numbers ≡ true
