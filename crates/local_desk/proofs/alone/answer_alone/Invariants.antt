use Rattle.std.proofs.Common.{◌≡◌, ◌-◌, ◌≤◌}
use Rattle.local_desk.proofs.alone.answer_alone.Given as goal

abbrev pub invariant-trying : goal.invariant-trying
invariant-trying g l = record {
  same : l.core ≡ l.fn.core;
  task : l.attempt.task ≡ l.fn.task;
  refused : l.attempt.refused ≤ 3;
  last : l.attempt.last ≤ l.fn.core.tally.count;
}

abbrev pub decreases-trying : goal.decreases-trying
decreases-trying g l = 3 - l.attempt.refused
