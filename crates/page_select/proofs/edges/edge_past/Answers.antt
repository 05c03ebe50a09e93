use Rattle.std.proofs.Common.{◌∙◌, sym, ap, arith}
use Rattle.std.specs.Option.{option_map_or}
use Rattle.world_cells.specs.declared.rows.Row.{Row}
use Rattle.world_cells.specs.declared.spans.Edge.TheVariants as edge
use Rattle.std.proofs.Common.{length}
use Rattle.page_select.proofs.Beside.{last_is}
use Rattle.page_select.proofs.edges.edge_past.Goals as goal

pub returns : goal.returns
returns c =
    c.edge_at.ensures
    ∙ sym (ap (λ o. option_map_or (λ (row : Row). edge.Open row.key.id) o c.args.low.now) (last_is c.args.rows.now c.index-rows-count.result (length c.args.rows.now) (omega arith) (omega arith) c.index-rows-count.is))
