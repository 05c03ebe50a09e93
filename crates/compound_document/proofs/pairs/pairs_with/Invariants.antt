use Rattle.std.proofs.Common.{◌≡◌, ◌≤◌, length, drop}
use Rattle.store_model.specs.Document.{pairs_with}
use Rattle.compound_document.proofs.pairs.pairs_with.Given as goal

-- the pairs from a place on
abbrev pub invariant-loop-left : goal.invariant-loop-left
invariant-loop-left l = record {
  within : l.left ≤ length l.pairs;
  so_far : l.all.items ≡ pairs_with (drop l.left l.pairs) l.name l.fn.text;
}

abbrev pub decreases-loop-left : goal.decreases-loop-left
decreases-loop-left l = l.left
