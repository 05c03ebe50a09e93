use Rattle.std.proofs.Common.{◌≡◌, ℕ, List, ap, ◌∙◌, None, Some, Err}
use Rattle.world_cells.specs.declared.rows.Row.{Row}
use Rattle.store_model.specs.Change.{refused, refuse_target, named_row, named_ids, member_ids, on_link}
use Rattle.store_model.specs.Reach.{is_row_in, target_keys}
use Rattle.trial_steps.specs.Steps.{RefusesOr}
use Rattle.row_writes.specs.WritesBacks.{ids_at}
use Rattle.trial_steps.specs.StepLaws.{sees_before, sees_after}
use Rattle.row_change.specs.declared.updates.Rewrite.{Rewrite}
use Rattle.row_change.specs.LinkChanges.{operation_of, link_keys, refuse_change, AreAfter, ids_by, IsRelinked}
use Rattle.row_change.proofs.Judging.{judges_passed}
use Rattle.row_change.proofs.MemberSteps.{named_ids_are}
use Rattle.row_change.proofs.MemberChanges.{target_first, members_then}
use Rattle.row_change.proofs.members.relinked_row.Goals as goal

pub returns-in_err-old-clause-sees : goal.returns-in_err-old-clause-sees
returns-in_err-old-clause-sees g c = λ schema w now behind leads.
    let o = c.args.operation.now in
    judges_passed {T = Row} {U = Rewrite} c.args.step.now.pointer.now (refuse_target now c.args.lids.now o.who.now) (refused schema now c.args.lids.now (operation_of o))
    (λ row. named_row now c.args.lids.now o.who.now ≡ Some row) (IsRelinked o c.args.lids.now now)
    c.in_err-old.field-0.0 c.from_residual.result c.from_residual.ensures.0 c.from_residual.ensures.1
    (λ r told. target_first schema now c.args.lids.now o.who.now o.rel o.members.now o.change r told) (c.in_err-old.ensures.sees schema w now behind leads)

pub returns-in_err-ids-clause-sees : goal.returns-in_err-ids-clause-sees
returns-in_err-ids-clause-sees g c = λ schema w now behind leads.
    let o = c.args.operation.now in
    let lids = c.args.lids.now in
    let first = sees_before schema g.V.View.cells (is_row_in (link_keys o lids)) c.args.recorder.now c.find_target.new.recorder c.ids_after.new.recorder
    (λ now. (refuse_target now lids o.who.now ≡ None) × (named_row now lids o.who.now ≡ Some c.in_ok-old.old)) c.ids_after.ensures.looks (c.in_ok-old.ensures.sees schema) w now behind leads in
    let linked : c.ids_at-linked.result.now ≡ named_ids now lids o.who.now o.rel = c.ids_at-linked.ensures ∙ ap (λ ls. ids_at ls o.rel) c.as_slice.ensures ∙ named_ids_are now lids o.who.now o.rel c.in_ok-old.old first.1 in
    judges_passed {T = List (List ℕ)} {U = Rewrite} c.args.step.now.pointer.now (refuse_change o lids c.ids_at-linked.result.now now) (refused schema now lids (operation_of o))
    (AreAfter o lids c.ids_at-linked.result.now) (IsRelinked o lids now)
    c.in_err-ids.field-0.0 c.from_residual-in_err-ids.result c.from_residual-in_err-ids.ensures.0 c.from_residual-in_err-ids.ensures.1
    (λ r told. members_then schema now lids o.who.now o.rel o.members.now o.change c.ids_at-linked.result.now first.0 linked ∙ told)
    (sees_after schema g.V.View.cells (is_row_in (target_keys lids o.who.now)) c.args.recorder.now c.find_target.new.recorder c.ids_after.new.recorder
    (λ now. RefusesOr {T = List (List ℕ)} c.args.step.now.pointer.now (refuse_change o lids c.ids_at-linked.result.now now) (AreAfter o lids c.ids_at-linked.result.now) (Err c.in_err-ids.field-0.0))
    c.find_target.ensures.looks (c.in_err-ids.ensures.sees schema) w now behind leads)

pub returns-clause-sees : goal.returns-clause-sees
returns-clause-sees g c = λ schema w now behind leads.
    let o = c.args.operation.now in
    let lids = c.args.lids.now in
    let first = sees_before schema g.V.View.cells (is_row_in (link_keys o lids)) c.args.recorder.now c.find_target.new.recorder c.ids_after.new.recorder
    (λ now. (refuse_target now lids o.who.now ≡ None) × (named_row now lids o.who.now ≡ Some c.in_ok-old.old)) c.ids_after.ensures.looks (c.in_ok-old.ensures.sees schema) w now behind leads in
    let linked : c.ids_at-linked.result.now ≡ named_ids now lids o.who.now o.rel = c.ids_at-linked.ensures ∙ ap (λ ls. ids_at ls o.rel) c.as_slice.ensures ∙ named_ids_are now lids o.who.now o.rel c.in_ok-old.old first.1 in
    let second = sees_after schema g.V.View.cells (is_row_in (target_keys lids o.who.now)) c.args.recorder.now c.find_target.new.recorder c.ids_after.new.recorder
    (λ now. (refuse_change o lids c.ids_at-linked.result.now now ≡ None) × AreAfter o lids c.ids_at-linked.result.now c.in_ok-ids.ids)
    c.find_target.ensures.looks (c.in_ok-ids.ensures.sees schema) w now behind leads in (
      members_then schema now lids o.who.now o.rel o.members.now o.change c.ids_at-linked.result.now first.0 linked ∙ second.0,
      record {
        named = first.1;
        changed = c.in_ok-new.ensures ∙ ap (λ ids. on_link o.rel (λ before. ids) c.in_ok-old.old) (second.1 ∙ ap (ids_by o.change (member_ids lids o.members.now)) (c.ids_at-linked.ensures ∙ ap (λ ls. ids_at ls o.rel) c.as_slice.ensures));
      },
    )
