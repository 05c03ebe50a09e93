use Rattle.std.proofs.Common.{◌≡◌, drop}
use Rattle.std.specs.List.{list_any}
use Rattle.world_cells.specs.CellOrder.{same_cell_key}
use Rattle.commit_log.proofs.reads.has_key.Given as goal

abbrev pub invariant-loop-other : goal.invariant-loop-other
invariant-loop-other l = list_any (same_cell_key l.key) l.keys ≡ list_any (same_cell_key l.key) (drop l.other-index l.keys)
