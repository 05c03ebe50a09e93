use Rattle.std.proofs.Common.{take, Some}
use Rattle.world_cells.specs.declared.cells.Cell.TheVariants as cell
use Rattle.trial_steps.specs.Steps.{LeavesReads}
use Rattle.row_writes.specs.WritesBacks.{WritesBacks}
use Rattle.row_writes.proofs.writes.put_backs.Given as goal

-- the ids so far
abbrev pub invariant-loop-id : goal.invariant-loop-id
invariant-loop-id g l = record {
  leaves : LeavesReads l.fn.recorder l.recorder;
  backs : WritesBacks l.kind l.from l.rel (take l.id-index l.ids) l.kept (Some cell.Back) l.fn.recorder.writes l.recorder.writes;
}
