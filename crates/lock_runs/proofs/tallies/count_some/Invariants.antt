use Rattle.std.proofs.Common.{◌≡◌}
use Rattle.lock_runs.specs.Turns.{IsOf}
use Rattle.lock_runs.proofs.tallies.count_some.Given as goal

abbrev pub invariant-loop : goal.invariant-loop
invariant-loop g l = IsOf l.fn.lock l.pass × (l.pass.view.numbers ≡ l.fn.pass.view.numbers)
