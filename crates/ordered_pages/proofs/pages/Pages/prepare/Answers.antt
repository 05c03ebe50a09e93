use Rattle.std.proofs.Common.{List, ap, sym, subst, ◌∙◌}
use Rattle.world_cells.specs.declared.sets.Written.{Written}
use Rattle.view_reads.specs.Merging.{IsOverlaid}
use Rattle.ordered_pages.specs.Entries.{Entry}
use Rattle.ordered_pages.specs.Tree.{leaves_of, map_of}
use Rattle.ordered_pages.proofs.pages.Pages.prepare.Goals as goal

pub returns-clause-cells : goal.returns-clause-cells
returns-clause-cells c =
    subst (λ (root : List (List (List (List Entry)))). IsOverlaid (map_of c.args.self.now) c.args.writes.now.cells (map_of (leaves_of root))) (sym c.in_ok-new-2.ensures.ok)
    (subst (λ (ws : List Written). IsOverlaid (map_of c.args.self.now) ws (map_of (leaves_of c.in_ok-new.new))) c.as_slice.ensures
    (subst (λ (leaves : List (List Entry)). IsOverlaid (map_of leaves) c.as_slice.result.now (map_of (leaves_of c.in_ok-new.new))) (ap leaves_of c.in_ok-start.ensures ∙ c.self.view_is) c.in_ok-new.ensures.ok.cells))
