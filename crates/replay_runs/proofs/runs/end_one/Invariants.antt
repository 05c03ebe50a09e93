use Rattle.std.proofs.Common.{◌≡◌, ◌≢◌, ℕ, length}
use Rattle.std.specs.Prelude.{slice_get}
use Rattle.session_engine.specs.Plans.{plans_of}
use Rattle.replay_runs.specs.declared.streams.Stream.{Stream}
use Rattle.replay_runs.specs.Running.{RunsSome, RunsOut, left_at}
use Rattle.replay_runs.proofs.runs.end_one.Given as goal

abbrev pub invariant-ending : goal.invariant-ending
invariant-ending g l = record {
  subject : l.core.subject ≡ l.fn.core.subject;
  window : l.core.tally.log.window ≡ l.fn.core.tally.log.window;
  size : length l.streams.items ≡ length l.fn.streams.items;
  others : (j : ℕ) → j ≢ l.k → slice_get l.streams.items j ≡ slice_get l.fn.streams.items j;
  some : RunsSome g.S.Answers.kind g.S.Means.meaning (plans_of (g.P.Planner.planned l.planner)) l.core l.streams.items l.history.items;
  all : RunsOut g.S.Answers.kind g.S.Means.meaning (plans_of (g.P.Planner.planned l.planner)) l.fn.core l.core l.fn.streams.items l.streams.items l.fn.history.items l.history.items l.k;
}

abbrev pub decreases-ending : goal.decreases-ending
decreases-ending g l = left_at l.streams.items l.k
