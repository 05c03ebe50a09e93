use Rattle.std.specs.Prelude.{vec_len}
use Rattle.lock_runs.specs.Turns.{IsOf, Covers}
use Rattle.lock_runs.proofs.runs.join_all.Given as goal

abbrev pub invariant-joining : goal.invariant-joining
invariant-joining g l = IsOf l.fn.lock l.whole × Covers l.fn.lock l.made.items l.whole

abbrev pub decreases-joining : goal.decreases-joining
decreases-joining g l = vec_len l.made
