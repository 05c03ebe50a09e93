use Rattle.std.proofs.Common.{take, None}
use Rattle.trial_steps.specs.Steps.{LeavesReads}
use Rattle.row_writes.specs.WritesBacks.{WritesBacks}
use Rattle.row_writes.proofs.writes.remove_backs.Given as goal

-- the ids so far
abbrev pub invariant-loop-id : goal.invariant-loop-id
invariant-loop-id g l = record {
  leaves : LeavesReads l.fn.recorder l.recorder;
  backs : WritesBacks l.kind l.from l.rel (take l.id-index l.ids) l.kept None l.fn.recorder.writes l.recorder.writes;
}
