use Rattle.std.proofs.Common.{◌≡◌, drop}
use Rattle.std.specs.List.{list_any}
use Rattle.world_cells.specs.Reads.{in_part}
use Rattle.commit_log.proofs.reads.has_part.Given as goal

abbrev pub invariant-loop-part : goal.invariant-loop-part
invariant-loop-part l = list_any (λ part. in_part part l.key) l.parts ≡ list_any (λ part. in_part part l.key) (drop l.part-index l.parts)
