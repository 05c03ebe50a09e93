use Rattle.std.proofs.Common.{◌≡◌, ◌<◌, ℕ, length, take}
use Rattle.session_engine.specs.Plans.{plans_of}
use Rattle.replay_runs.specs.Running.{RunsSome, RunsOn}
use Rattle.replay_runs.proofs.runs.step_all.Given as goal

abbrev pub invariant-stepping : goal.invariant-stepping
invariant-stepping g l = record {
  subject : l.core.subject ≡ l.fn.core.subject;
  window : l.core.tally.log.window ≡ l.fn.core.tally.log.window;
  size : length l.streams.items ≡ length l.fn.streams.items;
  some : RunsSome g.S.Answers.kind g.S.Means.meaning (plans_of (g.P.Planner.planned l.planner)) l.core l.streams.items l.history.items;
  all : RunsOn g.S.Answers.kind g.S.Means.meaning (plans_of (g.P.Planner.planned l.planner)) l.fn.core l.core l.fn.streams.items l.streams.items l.fn.history.items l.history.items (take l.step-index l.steps);
}
