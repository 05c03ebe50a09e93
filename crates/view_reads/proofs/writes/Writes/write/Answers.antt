use Rattle.std.proofs.Common.{◌∙◌, arith}
use Rattle.view_reads.proofs.Sorted.{still_sorted}
use Rattle.view_reads.proofs.writes.Writes.write.Goals as goal

pub invariant_of-self-2 : goal.invariant_of-self-2
invariant_of-self-2 c = (
  still_sorted c.write_cell.result _ _ _ _ c.self.invariant.0 c.write_cell.ensures.ok c.write_cell.ensures.err,
  c.in_ok-reserve.ensures.items ∙ c.self.invariant.1,
  (let longer = c.write_cell.ensures.len in let room = c.in_ok-reserve.ensures.ok in let more = c.saturating_add-more.ensures in let len = c.len.ensures in let small = c.self.inside.items.small in omega (arith, longer, room, more, len, small)),
)
