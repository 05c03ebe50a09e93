use Rattle.std.proofs.Common.{◌≡◌, List, [], ◌∷◌, ap, ◌∙◌, None, Some, Option, Err}
use Rattle.world_cells.specs.World.{has_row}
use Rattle.world_cells.specs.declared.rows.Row.{Row}
use Rattle.world_cells.specs.declared.rows.Link.{Link}
use Rattle.resource_schema.specs.Kinds.{relationships_of}
use Rattle.task_forms.specs.Fit.{kind_of}
use Rattle.task_forms.specs.declared.operations.Operation.TheVariants as operation
use Rattle.error_objects.specs.declared.refusals.Refusal.{Refusal}
use Rattle.store_model.specs.Change.{refused, refuse_target, refuse_links, named_row, set_values, set_links}
use Rattle.store_model.specs.Reach.{is_row_in, target_keys, linked_keys}
use Rattle.row_change.specs.declared.updates.Rewrite.{Rewrite}
use Rattle.trial_steps.specs.Steps.{RefusesOr}
use Rattle.row_change.specs.Rewrites.{IsRewrite}
use Rattle.trial_steps.specs.StepLaws.{sees_before, sees_after}
use Rattle.row_change.proofs.Judging.{judges_passed}
use Rattle.row_change.proofs.RewriteOutcomes.{first_told, then_told, first_alone}
use Rattle.row_change.proofs.updates.updated_row.Goals as goal

pub returns-in_err-old-clause-sees : goal.returns-in_err-old-clause-sees
returns-in_err-old-clause-sees g c = λ w now behind leads.
    let links : Option Refusal = refuse_links (has_row now) c.args.lids.now (relationships_of c.args.step.now.schema.now (kind_of c.args.update.now.who.now.named)) c.args.update.now.links.now in
    let target : Option Refusal = refuse_target now c.args.lids.now c.args.update.now.who.now in
    judges_passed {T = Row} {U = Rewrite} c.args.step.now.pointer.now target (refused c.args.step.now.schema.now now c.args.lids.now (operation.Update c.args.update.now.who.now c.args.update.now.values.now c.args.update.now.links.now))
    (λ row. named_row now c.args.lids.now c.args.update.now.who.now ≡ Some row)
    (λ made. IsRewrite now c.args.lids.now c.args.update.now.who.now (λ row. record row { values = set_values row.values c.args.update.now.values.now; links = set_links c.args.lids.now row.links c.args.update.now.links.now }) made.old made.new)
    c.in_err-old.field-0.0 c.from_residual.result c.from_residual.ensures.0 c.from_residual.ensures.1
    (λ r told. first_told target (links ∷ []) r told) (c.in_err-old.ensures.sees c.args.step.now.schema.now w now behind leads)

pub returns-in_err-links-clause-sees : goal.returns-in_err-links-clause-sees
returns-in_err-links-clause-sees g c = λ w now behind leads.
    let links : Option Refusal = refuse_links (has_row now) c.args.lids.now (relationships_of c.args.step.now.schema.now (kind_of c.args.update.now.who.now.named)) c.args.update.now.links.now in
    let target : Option Refusal = refuse_target now c.args.lids.now c.args.update.now.who.now in
    let none = (sees_before c.args.step.now.schema.now g.V.View.cells (is_row_in (linked_keys c.args.lids.now c.args.update.now.links.now)) c.args.recorder.now c.find_target.new.recorder c.new_links.new.recorder
    (λ now. (refuse_target now c.args.lids.now c.args.update.now.who.now ≡ None) × (named_row now c.args.lids.now c.args.update.now.who.now ≡ Some c.in_ok-old.old)) c.new_links.ensures.looks (c.in_ok-old.ensures.sees c.args.step.now.schema.now) w now behind leads).0 in
    judges_passed {T = List Link} {U = Rewrite} c.args.step.now.pointer.now links (refused c.args.step.now.schema.now now c.args.lids.now (operation.Update c.args.update.now.who.now c.args.update.now.values.now c.args.update.now.links.now))
    (λ new. new ≡ set_links c.args.lids.now c.in_ok-old.old.links c.args.update.now.links.now)
    (λ made. IsRewrite now c.args.lids.now c.args.update.now.who.now (λ row. record row { values = set_values row.values c.args.update.now.values.now; links = set_links c.args.lids.now row.links c.args.update.now.links.now }) made.old made.new)
    c.in_err-links.field-0.0 c.from_residual-in_err-links.result c.from_residual-in_err-links.ensures.0 c.from_residual-in_err-links.ensures.1
    (λ r told. then_told target (links ∷ []) (Some r) none (first_alone links ∙ told))
    (sees_after c.args.step.now.schema.now g.V.View.cells (is_row_in (target_keys c.args.lids.now c.args.update.now.who.now)) c.args.recorder.now c.find_target.new.recorder c.new_links.new.recorder
    (λ now. RefusesOr {T = List Link} c.args.step.now.pointer.now (refuse_links (has_row now) c.args.lids.now (relationships_of c.args.step.now.schema.now (kind_of c.args.update.now.who.now.named)) c.args.update.now.links.now) (λ new. new ≡ set_links c.args.lids.now c.in_ok-old.old.links c.args.update.now.links.now) (Err c.in_err-links.field-0.0))
    c.find_target.ensures.looks c.in_err-links.ensures.sees w now behind leads)

pub returns-clause-sees : goal.returns-clause-sees
returns-clause-sees g c = λ w now behind leads.
    let links : Option Refusal = refuse_links (has_row now) c.args.lids.now (relationships_of c.args.step.now.schema.now (kind_of c.args.update.now.who.now.named)) c.args.update.now.links.now in
    let target : Option Refusal = refuse_target now c.args.lids.now c.args.update.now.who.now in
    let first = sees_before c.args.step.now.schema.now g.V.View.cells (is_row_in (linked_keys c.args.lids.now c.args.update.now.links.now)) c.args.recorder.now c.find_target.new.recorder c.new_links.new.recorder
    (λ now. (refuse_target now c.args.lids.now c.args.update.now.who.now ≡ None) × (named_row now c.args.lids.now c.args.update.now.who.now ≡ Some c.in_ok-old.old)) c.new_links.ensures.looks (c.in_ok-old.ensures.sees c.args.step.now.schema.now) w now behind leads in
    let second = sees_after c.args.step.now.schema.now g.V.View.cells (is_row_in (target_keys c.args.lids.now c.args.update.now.who.now)) c.args.recorder.now c.find_target.new.recorder c.new_links.new.recorder
    (λ now. (refuse_links (has_row now) c.args.lids.now (relationships_of c.args.step.now.schema.now (kind_of c.args.update.now.who.now.named)) c.args.update.now.links.now ≡ None) × (c.in_ok-links.links ≡ set_links c.args.lids.now c.in_ok-old.old.links c.args.update.now.links.now))
    c.find_target.ensures.looks c.in_ok-links.ensures.sees w now behind leads in (
      then_told target (links ∷ []) None first.0 (first_alone links ∙ second.0),
      record {
        named = first.1;
        changed = c.in_ok-new.ensures ∙ ap (λ (ls : List Link). record c.in_ok-old.old { values = set_values c.in_ok-old.old.values c.as_slice.result.now; links = ls }) second.1
            ∙ ap (λ vs. record c.in_ok-old.old { values = set_values c.in_ok-old.old.values vs; links = set_links c.args.lids.now c.in_ok-old.old.links c.args.update.now.links.now }) c.as_slice.ensures;
      },
    )
