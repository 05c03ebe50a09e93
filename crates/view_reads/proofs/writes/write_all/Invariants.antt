use Rattle.std.proofs.Common.{◌≤◌, ◌+◌, length}
use Rattle.std.specs.Prelude.{vec_len, vec_capacity}
use Rattle.view_reads.specs.Places.{AreSorted}
use Rattle.view_reads.proofs.Overlays.{IsHalfway}
use Rattle.view_reads.proofs.writes.write_all.Given as goal

abbrev pub invariant-loop-kept : goal.invariant-loop-kept
invariant-loop-kept l = AreSorted l.writes.items × (vec_len l.writes + vec_len l.left ≤ vec_capacity l.writes) × IsHalfway l.fn.writes.items l.fn.new l.writes.items l.left.items × (vec_len l.writes + vec_len l.left ≤ vec_len l.fn.writes + length l.fn.new)

abbrev pub decreases-loop-kept : goal.decreases-loop-kept
decreases-loop-kept l = vec_len l.left
