use Rattle.std.proofs.Common.{◌++◌, refl, ap, sym, ◌∙◌, Some}
use Rattle.task_forms.specs.declared.operations.Operation.TheVariants as operation
use Rattle.store_model.specs.Change.{set_values, set_links}
use Rattle.store_model.specs.Reach.{is_row_in, target_keys, linked_keys}
use Rattle.row_change.specs.declared.updates.Rewrite.{Rewrite}
use Rattle.row_change.specs.Rewrites.{IsRewrite}
use Rattle.row_change.proofs.RewriteOutcomes.{stopped, rewritten, set_links_length}
use Rattle.row_change.proofs.updates.update.Goals as goal

pub returns-in_err-rewrite-clause-outcome : goal.returns-in_err-rewrite-clause-outcome
returns-in_err-rewrite-clause-outcome g c =
    stopped {T = Rewrite} c.args.step.now.schema.now g.V.View.cells c.args.step.now.pointer.now (operation.Update c.args.update.now.who.now c.args.update.now.values.now c.args.update.now.links.now) c.args.lids.now c.args.lids.now c.args.recorder.now c.updated_row.new.recorder
    (λ now made. IsRewrite now c.args.lids.now c.args.update.now.who.now (λ row. record row { values = set_values row.values c.args.update.now.values.now; links = set_links c.args.lids.now row.links c.args.update.now.links.now }) made.old made.new)
    c.in_err-rewrite.field-0.0 c.from_residual.result c.from_residual.ensures.0 c.from_residual.ensures.1 c.in_err-rewrite.ensures.sees

pub returns-clause-outcome : goal.returns-clause-outcome
returns-clause-outcome g c =
    rewritten c.args.step.now.schema.now g.V.View.cells c.args.step.now.pointer.now (operation.Update c.args.update.now.who.now c.args.update.now.values.now c.args.update.now.links.now) c.args.lids.now c.args.update.now.who.now
    (λ row. record row { values = set_values row.values c.args.update.now.values.now; links = set_links c.args.lids.now row.links c.args.update.now.links.now })
    (Some c.in_ok-rewrite.rewrite.new.key) c.in_ok-rewrite.rewrite.old c.in_ok-rewrite.rewrite.new (is_row_in (target_keys c.args.lids.now c.args.update.now.who.now ++ linked_keys c.args.lids.now c.args.update.now.links.now))
    c.args.recorder.now c.updated_row.new.recorder c.put_row.new.recorder
    (λ now. refl) (λ now. refl) (λ now named own. named.key ∙ ap Some (sym own)) (λ row. refl) (λ row. set_links_length c.args.lids.now row.links c.args.update.now.links.now)
    c.updated_row.ensures.looks c.in_ok-rewrite.ensures.sees c.in_ok-put_row.ensures.leaves c.in_ok-put_row.ensures.leads
