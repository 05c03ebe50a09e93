use Rattle.std.proofs.Common.{◌≡◌, ◌+◌, length}
use Rattle.std.specs.Prelude.{vec_len, All}
use Rattle.history_lock.specs.Views.{LockState}
use Rattle.lock_runs.specs.Turns.{IsOf, IsReady}
use Rattle.lock_runs.proofs.runs.turns_of.Given as goal

abbrev pub invariant-dealing : goal.invariant-dealing
invariant-dealing l =
    ((lock : LockState) → All (IsOf lock) l.fn.made.items → All (IsOf lock) l.made.items × All (IsReady lock) l.turns.items)
    × (length l.turns.items + length l.made.items ≡ length l.fn.made.items)

abbrev pub decreases-dealing : goal.decreases-dealing
decreases-dealing l = vec_len l.made
