use Rattle.std.proofs.Common.{sym, subst, arith}
use Rattle.std.specs.Arc.{arc_value}
use Rattle.ordered_pages.specs.Few.{nodes_of}
use Rattle.ordered_pages.specs.Entries.{passes}
use Rattle.ordered_pages.specs.declared.stops.Stop.TheVariants as stop
use Rattle.ordered_pages.proofs.Blocks.{each_at}
use Rattle.ordered_pages.proofs.Maps.{put_back}
use Rattle.ordered_pages.proofs.Sorts.{parted_sorted, stop_stays}
use Rattle.ordered_pages.proofs.Written.{rising_at, changed_at}
use Rattle.ordered_pages.proofs.shared.Shared.changed_in.Goals as goal

pub begun-requires-clause-parted : goal.begun-requires-clause-parted
begun-requires-clause-parted g c = parted_sorted (passes (stop.UpTo c.key.result)) (stop_stays (stop.UpTo c.key.result)) _ c.requires.sorted

pub changed-requires-clause-sound : goal.changed-requires-clause-sound
changed-requires-clause-sound g c =
    let w = c.begun.ensures.within in
    subst g.T.Node.is_sound (sym c.take_out-child.ensures.item) (each_at g.T.Node.is_sound c.args.self _ (arc_value c.take_out-child.result) c.requires.sound (omega arith))

pub changed-requires-clause-sorted : goal.changed-requires-clause-sorted
changed-requires-clause-sorted g c =
    let w = c.begun.ensures.within in
    rising_at g.T.Node.entries g.T.Node.is_sound g.met.T.Node.has_first c.args.self _ (arc_value c.take_out-child.result) c.requires.sorted (omega arith) c.take_out-child.ensures.item

pub returns : goal.returns
returns g c =
    let w = c.begun.ensures.within in
    changed_at g.T.Node.entries g.T.Node.is_sound g.met.T.Node.has_first g.T.Node.replaces c.key.result c.args.change.now c.args.self c.begun.result c.saturating_sub-at.result
    (arc_value c.take_out-child.result) (nodes_of c.in_ok-made-2.made) c.put_in.new.self c.requires.sound c.requires.sorted c.begun.ensures c.key.ensures c.saturating_sub-at.ensures (omega arith) c.take_out-child.ensures.item
    (subst g.T.Node.is_sound (sym c.take_out-child.ensures.item) (each_at g.T.Node.is_sound c.args.self _ (arc_value c.take_out-child.result) c.requires.sound (omega arith)))
    c.in_ok-made-2.ensures
    (put_back c.args.self (nodes_of c.in_ok-made-2.made) c.take_out-child.new.self c.put_in.new.self c.saturating_sub-at.result (omega arith) c.take_out-child.ensures.rest c.in_ok-put_in.ensures)
