use Rattle.std.proofs.Common.{sym, ap, ◌∙◌, ◌++◌, ◌∷◌, []}
use Rattle.world_cells.specs.declared.keys.CellKey.{CellKey}
use Rattle.ordered_pages.proofs.Prepared.{step_none, step_some}
use Rattle.ordered_pages.proofs.pages.written.Goals as goal

pub returns-then-is_there-clause-ok : goal.returns-then-is_there-clause-ok
returns-then-is_there-clause-ok c =
    step_none c.args.write.now c.args.root c.args.keys.now.items c.requires
    (sym c.find.ensures ∙ c.is_there.ensures.0 c.if-is_there.true)

pub returns-clause-ok : goal.returns-clause-ok
returns-clause-ok c =
    step_some c.args.write.now c.args.root c.in_ok-new.new c.args.keys.now.items c.push.new.self.items
    c.in_ok-new.ensures
    (c.in_ok-push.ensures.items ∙ ap (λ (k : CellKey). c.args.keys.now.items ++ k ∷ []) c.in_ok-copy.ensures)
    (λ e. let there = c.is_there.ensures.1 (c.find.ensures ∙ e) in cc (there, c.if-is_there.false))
