use Rattle.std.proofs.Common.{◌≡◌, ℕ, List, [], sym, ap, subst, ◌∙◌, Result, Option, Ok, Err, true}
use Rattle.std.specs.Prelude.{codes, map, not}
use Rattle.std.specs.List.{filter, list_any}
use Rattle.ident_rules.specs.declared.step_errors.StepError.{StepError}
use Rattle.error_objects.specs.declared.refusals.Refusal.{Refusal}
use Rattle.world_cells.specs.World.{World}
use Rattle.store_model.specs.Valid.{same_id}
use Rattle.store_model.specs.Change.{Lids, first_of, refuse_member, member_ids}
use Rattle.task_forms.specs.declared.operations.Member.{Member}
use Rattle.trial_steps.specs.Steps.{RefusesOr}
use Rattle.row_change.specs.declared.members.LinkChange.{LinkChange}
use Rattle.row_change.specs.declared.members.LinkChange.TheVariants as change
use Rattle.row_change.specs.declared.places.MayLinkTo.TheVariants as to
use Rattle.row_change.specs.LinkChanges.{linked_to, refuse_by, ids_by}
use Rattle.row_change.proofs.Judging.{judges_passed}
use Rattle.row_change.proofs.MemberChanges.{told_joined, told_named}
use Rattle.row_change.proofs.members.ids_after.Goals as goal

-- what is told of a change, by which one it is
by_change : (at : List ℕ) (lids : Lids) (old : List (List ℕ)) (members : List Member) (now : World) (result : Result (List (List ℕ)) (StepError Refusal)) (c x : LinkChange) → c ≡ x
    → RefusesOr at (refuse_by x lids old members now) (λ ids. ids ≡ ids_by x (member_ids lids members) old) result → RefusesOr at (refuse_by c lids old members now) (λ ids. ids ≡ ids_by c (member_ids lids members) old) result
by_change at lids old members now result c x is told =
    subst (λ (y : LinkChange). RefusesOr at (refuse_by y lids old members now) (λ ids. ids ≡ ids_by y (member_ids lids members) old) result) (sym is) told

pub returns-in-Set-clause-sees : goal.returns-in-Set-clause-sees
returns-in-Set-clause-sees g c = λ schema w now behind leads.
    let o = c.args.operation.now in
    let linkage = c.linkage_of-linkage in
    by_change c.args.step.now.pointer.now c.args.lids.now c.args.old.now o.members.now now c.join_members.result o.change change.Set c.in-Set.is
    (told_joined c.args.step.now.pointer.now c.args.lids.now linkage.result to.AtRow o.members.now now c.join_members.result
    (linkage.ensures.to ∙ ap linked_to c.in-Set.is) linkage.ensures.pointer linkage.ensures.members [] (c.join_members.ensures.sees schema w now behind leads))

pub returns-in-Add-clause-sees : goal.returns-in-Add-clause-sees
returns-in-Add-clause-sees g c = λ schema w now behind leads.
    let o = c.args.operation.now in
    let linkage = c.linkage_of-linkage in
    by_change c.args.step.now.pointer.now c.args.lids.now c.args.old.now o.members.now now c.join_members-in-Add.result o.change change.Add c.in-Add.is
    (told_joined c.args.step.now.pointer.now c.args.lids.now linkage.result to.AtRow o.members.now now c.join_members-in-Add.result
    (linkage.ensures.to ∙ ap linked_to c.in-Add.is) linkage.ensures.pointer linkage.ensures.members c.args.old.now (c.join_members-in-Add.ensures.sees schema w now behind leads))

pub returns-in_err-removed-in-Remove-clause-sees : goal.returns-in_err-removed-in-Remove-clause-sees
returns-in_err-removed-in-Remove-clause-sees g c = λ schema w now behind leads.
    let o = c.args.operation.now in
    let linkage = c.linkage_of-linkage in
    let at = c.args.step.now.pointer.now in
    let lids = c.args.lids.now in
    let named : Option Refusal = first_of (map (refuse_member (λ k. true) lids (codes "/data")) o.members.now) in
    by_change at lids c.args.old.now o.members.now now c.from_residual.result o.change change.Remove c.in-Remove.is
    (judges_passed {T = List (List ℕ)} {U = List (List ℕ)} at named named
    (λ ids. ids ≡ member_ids lids o.members.now) (λ ids. ids ≡ ids_by change.Remove (member_ids lids o.members.now) c.args.old.now)
    c.in_err-removed-in-Remove.field-0.0 c.from_residual.result c.from_residual.ensures.0 c.from_residual.ensures.1 (λ r told. told)
    (told_named at lids linkage.result to.Anywhere o.members.now now (Err c.in_err-removed-in-Remove.field-0.0)
    (linkage.ensures.to ∙ ap linked_to c.in-Remove.is) linkage.ensures.pointer linkage.ensures.members (c.in_err-removed-in-Remove.ensures.sees schema w now behind leads)))

pub returns-in_ok-ids_without-in-Remove-clause-sees : goal.returns-in_ok-ids_without-in-Remove-clause-sees
returns-in_ok-ids_without-in-Remove-clause-sees g c = λ schema w now behind leads.
    let o = c.args.operation.now in
    let linkage = c.linkage_of-linkage in
    let at = c.args.step.now.pointer.now in
    let lids = c.args.lids.now in
    let told = told_named at lids linkage.result to.Anywhere o.members.now now (Ok c.in_ok-removed-in-Remove.removed)
    (linkage.ensures.to ∙ ap linked_to c.in-Remove.is) linkage.ensures.pointer linkage.ensures.members (c.in_ok-removed-in-Remove.ensures.sees schema w now behind leads) in
    by_change at lids c.args.old.now o.members.now now (Ok c.in_ok-ids_without-in-Remove.field-0) o.change change.Remove c.in-Remove.is
    (told.0, c.in_ok-ids_without-in-Remove.ensures ∙ ap (λ ds. filter (λ x. not (list_any (same_id x) ds)) c.args.old.now) (c.as_slice.ensures ∙ told.1))
