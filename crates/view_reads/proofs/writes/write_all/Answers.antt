use Rattle.std.proofs.Common.{arith}
use Rattle.view_reads.proofs.Sorted.{wrote_sorted}
use Rattle.view_reads.proofs.Overlays.{halfway-more}
use Rattle.view_reads.proofs.writes.write_all.Goals as goal

pub loop-kept-preserved : goal.loop-kept-preserved
loop-kept-preserved c =
    let kept = c.loop-kept.invariant in
    let popped = c.in-Some.ensures.cases in
    let longer = c.write_in_room.ensures.len in
    let room = c.write_in_room.ensures.capacity in (
      wrote_sorted _ _ c.in-Some.kept.key c.in-Some.kept.cell kept.0 c.write_in_room.ensures.wrote,
      omega (arith, kept.1, popped, longer, room),
      halfway-more _ c.args.new _ _ _ _ c.in-Some.kept c.in-Some.ensures.items c.write_in_room.ensures.wrote kept.2,
      omega (arith, kept.3, popped, longer),
    )
