use Rattle.std.proofs.Common.{◌∷◌, Some, ap}
use Rattle.ordered_pages.specs.Entries.{Entry}
use Rattle.ordered_pages.proofs.Filled.{all_more, filled_more}
use Rattle.ordered_pages.proofs.pages.filled.Goals as goal

pub loop-held-preserved : goal.loop-held-preserved
loop-held-preserved c =
    let h = c.loop-held.invariant in
    let all = all_more c.args.cells.items c.loop-held.left.items c.pop.new.self.items h.rest c.in-Some.held h.all c.in-Some.ensures.items in
    record {
      rest = c.in-Some.held ∷ h.rest;
      all = all;
      filled =
          filled_more c.args.cells.items c.pop.new.self.items h.rest c.in-Some.held _ c.loop-held.root c.in_ok-root.root c.requires all
          (ap (λ (e : Entry). e.0) c.in_ok-held.ensures.ok) (ap (λ (e : Entry). Some e.1) c.in_ok-held.ensures.ok) h.filled c.in_ok-root.ensures;
    }
