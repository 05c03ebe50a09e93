use Rattle.std.proofs.Common.{sym, ap, ◌∙◌}
use Rattle.std.specs.Arc.{arc_value}
use Rattle.ordered_pages.specs.Few.{nodes_of}
use Rattle.world_cells.specs.CellOrder.{cell_key_cmp}
use Rattle.ordered_pages.specs.Entries.{Entry}
use Rattle.ordered_pages.specs.Changed.{key_of}
use Rattle.ordered_pages.proofs.Written.{changed_one, case_less, case_equal, case_greater, map_ok}
use Rattle.ordered_pages.proofs.nodes.Tuple2CellKeyCellNode.changed.Goals as goal

pub returns-in-Less : goal.returns-in-Less
returns-in-Less c =
    map_ok _ _ c.put_behind.result
    (λ nodes e. changed_one c.args.change.now (arc_value c.args.this) (nodes_of nodes)
    (case_less c.args.change.now (arc_value c.args.this) (nodes_of nodes)
    (ap (λ (x : Entry). cell_key_cmp x.0 (key_of c.args.change.now)) (sym c.deref.ensures) ∙ ap (cell_key_cmp c.deref.result.now.0) (sym c.key.ensures) ∙ sym c.cmp.ensures ∙ c.in-Less.is) e))
    c.put_behind.ensures

pub returns-in-Equal : goal.returns-in-Equal
returns-in-Equal c =
    map_ok _ _ c.put_alone.result
    (λ nodes e. changed_one c.args.change.now (arc_value c.args.this) (nodes_of nodes)
    (case_equal c.args.change.now (arc_value c.args.this) (nodes_of nodes)
    (ap (λ (x : Entry). cell_key_cmp x.0 (key_of c.args.change.now)) (sym c.deref.ensures) ∙ ap (cell_key_cmp c.deref.result.now.0) (sym c.key.ensures) ∙ sym c.cmp.ensures ∙ c.in-Equal.is) e))
    c.put_alone.ensures

pub returns-in-Greater : goal.returns-in-Greater
returns-in-Greater c =
    map_ok _ _ c.put_before.result
    (λ nodes e. changed_one c.args.change.now (arc_value c.args.this) (nodes_of nodes)
    (case_greater c.args.change.now (arc_value c.args.this) (nodes_of nodes)
    (ap (λ (x : Entry). cell_key_cmp x.0 (key_of c.args.change.now)) (sym c.deref.ensures) ∙ ap (cell_key_cmp c.deref.result.now.0) (sym c.key.ensures) ∙ sym c.cmp.ensures ∙ c.in-Greater.is) e))
    c.put_before.ensures
