use Rattle.std.proofs.Common.{◌≡◌}
use Rattle.history_tests.proofs.cores.commit_times.Given as goal

abbrev pub invariant-committing : goal.invariant-committing
invariant-committing g l = l.core.subject ≡ l.fn.core.subject
