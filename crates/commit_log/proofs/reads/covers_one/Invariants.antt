use Rattle.std.proofs.Common.{◌≡◌, drop}
use Rattle.std.specs.List.{list_any}
use Rattle.world_cells.specs.Reads.{covers}
use Rattle.commit_log.proofs.reads.covers_one.Given as goal

abbrev pub invariant-loop-key : goal.invariant-loop-key
invariant-loop-key l = list_any (covers l.reads) l.keys ≡ list_any (covers l.reads) (drop l.key-index l.keys)
