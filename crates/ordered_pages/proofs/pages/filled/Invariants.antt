use Rattle.std.proofs.Common.{◌≡◌, ◌++◌, List}
use Rattle.std.specs.Prelude.{vec_len}
use Rattle.ordered_pages.specs.Entries.{Entry}
use Rattle.ordered_pages.specs.Prepared.{IsFilled}
use Rattle.ordered_pages.proofs.pages.filled.Given as goal

abbrev pub invariant-loop-held : goal.invariant-loop-held
invariant-loop-held l = record {
  rest : List Entry;
  all : l.fn.cells.items ≡ l.left.items ++ rest;
  filled : IsFilled rest l.root;
}

abbrev pub decreases-loop-held : goal.decreases-loop-held
decreases-loop-held l = vec_len l.left
