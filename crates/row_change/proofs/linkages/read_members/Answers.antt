use Rattle.std.proofs.Common.{◌≡◌, ℕ, ◌<◌, List, [], ◌∷◌, ◌++◌, sym, ap, ◌∙◌, length, take, arith, None, Option, Err}
use Rattle.std.specs.Prelude.{map, ⊤}
use Rattle.std.proofs.lemmas.List.Elements.{filter_map-append}
use Rattle.task_forms.specs.declared.operations.Member.{Member}
use Rattle.store_model.specs.Change.{first_of, refuse_member, member_ids, key_of}
use Rattle.store_model.specs.Reach.{is_row_in, member_keys}
use Rattle.trial_steps.specs.Steps.{RefusesOr}
use Rattle.row_change.specs.Places.{may_link}
use Rattle.error_objects.specs.declared.refusals.Refusal.{Refusal}
use Rattle.row_change.proofs.Judging.{looks_here, looks_so_far, first_so_far, first_here, judges_passed, next_taken, all_taken}
use Rattle.trial_steps.specs.StepLaws.{sees_before, sees_after}
use Rattle.row_change.proofs.linkages.read_members.Goals as goal

pub returns-in_err-id-clause-looks : goal.returns-in_err-id-clause-looks
returns-in_err-id-clause-looks g c =
    let lt : c.loop-member.member-index < length c.args.linkage.now.members.now = omega arith in
    looks_here (member_keys c.args.lids.now) (filter_map-append (λ m. key_of c.args.lids.now m.named)) c.args.linkage.now.members.now c.loop-member.member-index c.member-item.result c.args.recorder.now c.loop-member.recorder c.read_member.new.recorder
    lt c.member-item.is c.loop-member.invariant.looks c.read_member.ensures.looks

pub returns-in_err-push_id-clause-looks : goal.returns-in_err-push_id-clause-looks
returns-in_err-push_id-clause-looks g c =
    let lt : c.loop-member.member-index < length c.args.linkage.now.members.now = omega arith in
    looks_here (member_keys c.args.lids.now) (filter_map-append (λ m. key_of c.args.lids.now m.named)) c.args.linkage.now.members.now c.loop-member.member-index c.member-item.result c.args.recorder.now c.loop-member.recorder c.read_member.new.recorder
    lt c.member-item.is c.loop-member.invariant.looks c.read_member.ensures.looks

pub returns-in_err-id-clause-sees : goal.returns-in_err-id-clause-sees
returns-in_err-id-clause-sees g c = λ schema w now behind leads.
    let lt : c.loop-member.member-index < length c.args.linkage.now.members.now = omega arith in
    let f : Member → Option Refusal = refuse_member (may_link c.args.linkage.now.to now) c.args.lids.now c.args.linkage.now.pointer.now in
    judges_passed {T = List ℕ} {U = List (List ℕ)} c.args.step.now.pointer.now (f c.member-item.result) (first_of (map f c.args.linkage.now.members.now)) (λ id. ⊤) (λ ids. ids ≡ member_ids c.args.lids.now c.args.linkage.now.members.now) c.in_err-id.field-0.0 c.from_residual.result
    c.from_residual.ensures.0 c.from_residual.ensures.1
    (λ x told. first_here f c.args.linkage.now.members.now c.loop-member.member-index c.member-item.result x lt c.member-item.is
    (sees_before schema g.V.View.cells (is_row_in (member_keys c.args.lids.now (c.member-item.result ∷ []))) c.args.recorder.now c.loop-member.recorder c.read_member.new.recorder
    (λ now. first_of (map (refuse_member (may_link c.args.linkage.now.to now) c.args.lids.now c.args.linkage.now.pointer.now) (take c.loop-member.member-index c.args.linkage.now.members.now)) ≡ None)
    c.read_member.ensures.looks (c.loop-member.invariant.sees schema) w now behind leads) told)
    (sees_after schema g.V.View.cells (is_row_in (member_keys c.args.lids.now (take c.loop-member.member-index c.args.linkage.now.members.now))) c.args.recorder.now c.loop-member.recorder c.read_member.new.recorder
    (λ now. RefusesOr {T = List ℕ} c.args.step.now.pointer.now (refuse_member (may_link c.args.linkage.now.to now) c.args.lids.now c.args.linkage.now.pointer.now c.member-item.result) (λ id. ⊤) (Err c.in_err-id.field-0.0))
    c.loop-member.invariant.looks (c.in_err-id.ensures.sees schema) w now behind leads)

pub loop-member-preserved : goal.loop-member-preserved
loop-member-preserved g c =
    let lt : c.loop-member.member-index < length c.args.linkage.now.members.now = omega arith in
    record {
      looks = looks_so_far (member_keys c.args.lids.now) (filter_map-append (λ m. key_of c.args.lids.now m.named)) c.args.linkage.now.members.now c.loop-member.member-index c.member-item.result c.args.recorder.now c.loop-member.recorder c.read_member.new.recorder
          lt c.member-item.is c.loop-member.invariant.looks c.read_member.ensures.looks;
      ids = c.in_ok-push_id.ensures
          ∙ ap (λ ids. ids ++ c.in_ok-id.id ∷ []) c.loop-member.invariant.ids
          ∙ ap (λ ids. member_ids c.args.lids.now (take c.loop-member.member-index c.args.linkage.now.members.now) ++ ids) (sym c.in_ok-id.ensures.id)
          ∙ sym (ap (member_ids c.args.lids.now) (next_taken c.args.linkage.now.members.now c.loop-member.member-index c.member-item.result lt c.member-item.is)
          ∙ filter_map-append _ (take c.loop-member.member-index c.args.linkage.now.members.now) (c.member-item.result ∷ []));
      sees = λ schema w now behind leads.
          first_so_far (refuse_member (may_link c.args.linkage.now.to now) c.args.lids.now c.args.linkage.now.pointer.now) c.args.linkage.now.members.now c.loop-member.member-index c.member-item.result lt c.member-item.is
          (sees_before schema g.V.View.cells (is_row_in (member_keys c.args.lids.now (c.member-item.result ∷ []))) c.args.recorder.now c.loop-member.recorder c.read_member.new.recorder
          (λ now. first_of (map (refuse_member (may_link c.args.linkage.now.to now) c.args.lids.now c.args.linkage.now.pointer.now) (take c.loop-member.member-index c.args.linkage.now.members.now)) ≡ None)
          c.read_member.ensures.looks (c.loop-member.invariant.sees schema) w now behind leads)
          (sees_after schema g.V.View.cells (is_row_in (member_keys c.args.lids.now (take c.loop-member.member-index c.args.linkage.now.members.now))) c.args.recorder.now c.loop-member.recorder c.read_member.new.recorder
          (λ now. (refuse_member (may_link c.args.linkage.now.to now) c.args.lids.now c.args.linkage.now.pointer.now c.member-item.result ≡ None) × ⊤)
          c.loop-member.invariant.looks (c.in_ok-id.ensures.sees schema) w now behind leads).0;
      unread = λ e. c.read_member.ensures.unread e ∙ c.loop-member.invariant.unread e;
    }

pub returns-clause-sees : goal.returns-clause-sees
returns-clause-sees g c =
    let e : take c.loop-member.member-index c.args.linkage.now.members.now ≡ c.args.linkage.now.members.now = all_taken c.args.linkage.now.members.now c.loop-member.member-index (omega arith) (omega arith) in
    λ schema w now behind leads. (
      ap (λ ms. first_of (map (refuse_member (may_link c.args.linkage.now.to now) c.args.lids.now c.args.linkage.now.pointer.now) ms)) (sym e) ∙ c.loop-member.invariant.sees schema w now behind leads,
      c.from_vec.ensures ∙ c.loop-member.invariant.ids ∙ ap (member_ids c.args.lids.now) e,
    )

pub returns-in_err-id-clause-unread : goal.returns-in_err-id-clause-unread
returns-in_err-id-clause-unread g c = λ e. c.read_member.ensures.unread e ∙ c.loop-member.invariant.unread e

pub returns-in_err-push_id-clause-unread : goal.returns-in_err-push_id-clause-unread
returns-in_err-push_id-clause-unread g c = λ e. c.read_member.ensures.unread e ∙ c.loop-member.invariant.unread e
