use Rattle.std.proofs.Common.{subst, sym}
use Rattle.ordered_pages.specs.Entries.{AreRising}
use Rattle.ordered_pages.proofs.Trees.{in_tree}
use Rattle.ordered_pages.proofs.Written.{map_ok}
use Rattle.ordered_pages.proofs.Whole.{tree_changed}
use Rattle.ordered_pages.proofs.pages.with_change.Goals as goal

pub changed_in-requires-clause-sorted : goal.changed_in-requires-clause-sorted
changed_in-requires-clause-sorted c = subst AreRising (sym (in_tree c.args.root)) c.requires.rising

pub returns : goal.returns
returns c = map_ok _ _ c.changed_in.result (λ new e. tree_changed c.args.change.now c.args.root new c.requires e) c.changed_in.ensures
