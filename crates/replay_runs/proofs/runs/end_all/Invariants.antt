use Rattle.std.proofs.Common.{◌≡◌, ◌<◌, ℕ, length, Some}
use Rattle.std.specs.Prelude.{slice_get, IsSome}
use Rattle.session_engine.specs.Plans.{plans_of}
use Rattle.replay_runs.specs.declared.streams.Stream.{Stream}
use Rattle.replay_runs.specs.Running.{RunsSome, RunsAllOut}
use Rattle.replay_runs.proofs.runs.end_all.Given as goal

abbrev pub invariant-finishing : goal.invariant-finishing
invariant-finishing g l = record {
  subject : l.core.subject ≡ l.fn.core.subject;
  window : l.core.tally.log.window ≡ l.fn.core.tally.log.window;
  size : length l.streams.items ≡ length l.fn.streams.items;
  ended : (j : ℕ) (s : Stream) → j < l.k → slice_get l.streams.items j ≡ Some s → IsSome s.end;
  some : RunsSome g.S.Answers.kind g.S.Means.meaning (plans_of (g.P.Planner.planned l.planner)) l.core l.streams.items l.history.items;
  all : RunsAllOut g.S.Answers.kind g.S.Means.meaning (plans_of (g.P.Planner.planned l.planner)) l.fn.core l.core l.fn.streams.items l.streams.items l.fn.history.items l.history.items l.k;
}
