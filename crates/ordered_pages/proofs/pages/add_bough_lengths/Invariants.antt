use Rattle.std.proofs.Common.{◌≡◌, ◌++◌, map, length, take}
use Rattle.ordered_pages.specs.Tree.{leaves_below}
use Rattle.ordered_pages.proofs.pages.add_bough_lengths.Given as goal

abbrev pub invariant-loop-i : goal.invariant-loop-i
invariant-loop-i l = l.lengths.items ≡ l.initial.lengths.items ++ map length (leaves_below (take l.i l.bough))
