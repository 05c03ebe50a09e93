use Rattle.std.proofs.Common.{ap}
use Rattle.world_cells.specs.World.{has_row}
use Rattle.world_cells.specs.declared.rows.Row.{Row}
use Rattle.task_forms.specs.Fit.{kind_of}
use Rattle.row_change.proofs.RewriteOutcomes.{judged_links}
use Rattle.row_change.proofs.updates.new_links.Goals as goal

pub returns-clause-sees : goal.returns-clause-sees
returns-clause-sees g c = λ w now behind leads.
    judged_links c.args.step.now.schema.now c.args.step.now.pointer.now c.args.lids.now (has_row now) c.kind.result (kind_of c.args.update.now.who.now.named) c.as_slice.result.now c.args.update.now.links.now c.in_ok-copy.copy.links c.args.old.now.links c.read_links.result
    c.kind.ensures c.as_slice.ensures (ap (λ (r : Row). r.links) c.in_ok-copy.ensures) (c.read_links.ensures.sees w now behind leads)
