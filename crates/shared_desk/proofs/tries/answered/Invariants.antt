use Rattle.std.proofs.Common.{◌≡◌, ◌+◌, ◌-◌, ◌≤◌, length}
use Rattle.commit_core.specs.Serving.{IsPassOf}
use Rattle.shared_desk.proofs.Growing.{Extends}
use Rattle.shared_desk.proofs.tries.answered.Given as goal

abbrev pub invariant-loop-gate : goal.invariant-loop-gate
invariant-loop-gate g l = record {
  own : IsPassOf g.S.Answers.kind l.service l.pass;
  task : l.attempt.task ≡ l.fn.task;
  refused : l.attempt.refused ≤ 3;
  last : l.attempt.last ≤ l.pass.view.first + length l.pass.view.seen;
  extends : Extends l.fn.pass l.pass;
}

abbrev pub decreases-loop-gate : goal.decreases-loop-gate
decreases-loop-gate g l = 3 - l.attempt.refused
