use Rattle.std.proofs.Common.{◌≡◌, ℕ, ◌<◌, List, [], ◌∷◌, sym, ap, ◌∙◌, length, take, drop, arith, None, Option, Err}
use Rattle.std.specs.Prelude.{Bool, map}
use Rattle.std.proofs.lemmas.List.{drop_all}
use Rattle.ident_rules.specs.declared.key.Key.{Key}
use Rattle.world_cells.specs.declared.rows.Link.{Link}
use Rattle.task_forms.specs.declared.operations.Member.{Member}
use Rattle.error_objects.specs.declared.refusals.Refusal.{Refusal}
use Rattle.resource_schema.specs.Kinds.{relationships_of}
use Rattle.store_model.specs.Change.{first_of, refuse_linkage, linkage_pointer, append_new, member_ids, set_links}
use Rattle.store_model.specs.Reach.{is_row_in, linked_keys}
use Rattle.trial_steps.specs.Steps.{RefusesOr}
use Rattle.row_change.specs.Places.{may_link}
use Rattle.trial_steps.specs.StepLaws.{sees_before, sees_after}
use Rattle.row_change.proofs.Judging.{looks_here, looks_begun, looks_so_far, first_so_far, first_here, judges_passed, all_taken}
use Rattle.row_change.proofs.LinkSteps.{linked_keys_split, looks_one, refused_alike, set_next}
use Rattle.row_change.proofs.links.read_links.Goals as goal

pub returns-in_err-pointer-clause-looks : goal.returns-in_err-pointer-clause-looks
returns-in_err-pointer-clause-looks g c =
    looks_begun (linked_keys c.args.lids.now) (linked_keys_split c.args.lids.now) c.args.given.now.links.now c.loop-rel.rel-index c.args.recorder.now c.loop-rel.recorder c.loop-rel.invariant.looks

pub returns-in_err-ids-clause-looks : goal.returns-in_err-ids-clause-looks
returns-in_err-ids-clause-looks g c =
    let lt : c.loop-rel.rel-index < length c.args.given.now.links.now = omega arith in
    looks_here (linked_keys c.args.lids.now) (linked_keys_split c.args.lids.now) c.args.given.now.links.now c.loop-rel.rel-index c.loop-rel-item.result c.args.recorder.now c.loop-rel.recorder c.join_members.new.recorder
    lt c.loop-rel-item.is c.loop-rel.invariant.looks
    (looks_one c.args.lids.now c.loop-rel-item.result c.as_slice.result.now c.loop-rel.recorder c.join_members.new.recorder c.as_slice.ensures c.join_members.ensures.looks)

pub returns-in_err-ids-clause-sees : goal.returns-in_err-ids-clause-sees
returns-in_err-ids-clause-sees g c = λ w now behind leads.
    let lt : c.loop-rel.rel-index < length c.args.given.now.links.now = omega arith in
    let rels = relationships_of c.args.step.now.schema.now c.args.given.now.kind in
    let item = c.loop-rel-item.result in
    let test : Key → Bool = may_link c.args.given.now.to now in
    let f : ℕ × List Member → Option Refusal = λ x. refuse_linkage test c.args.lids.now (linkage_pointer rels x.0) [] x.1 in
    let pointer : c.as_str.result.now ≡ linkage_pointer rels item.0 = c.as_str.ensures ∙ c.in_ok-pointer.ensures ∙ ap (λ r. linkage_pointer r item.0) c.relationships_of-relationships.ensures.relationships in
    let alike : refuse_linkage test c.args.lids.now c.as_str.result.now [] c.as_slice.result.now ≡ f item =
    refused_alike test c.args.lids.now c.as_str.result.now (linkage_pointer rels item.0) c.as_slice.result.now item.1 pointer c.as_slice.ensures in
    let looked = looks_one c.args.lids.now item c.as_slice.result.now c.loop-rel.recorder c.join_members.new.recorder c.as_slice.ensures c.join_members.ensures.looks in
    judges_passed {T = List (List ℕ)} {U = List Link} c.args.step.now.pointer.now (refuse_linkage test c.args.lids.now c.as_str.result.now [] c.as_slice.result.now) (first_of (map f c.args.given.now.links.now))
    (λ ids. ids ≡ append_new [] (member_ids c.args.lids.now c.as_slice.result.now)) (λ new. new ≡ set_links c.args.lids.now c.args.old c.args.given.now.links.now) c.in_err-ids.field-0.0 c.from_residual-in_err-ids.result
    c.from_residual-in_err-ids.ensures.0 c.from_residual-in_err-ids.ensures.1
    (λ x told. first_here f c.args.given.now.links.now c.loop-rel.rel-index item x lt c.loop-rel-item.is
    (sees_before c.args.step.now.schema.now g.V.View.cells (is_row_in (linked_keys c.args.lids.now (item ∷ []))) c.args.recorder.now c.loop-rel.recorder c.join_members.new.recorder
    (λ now. first_of (map (λ x. refuse_linkage (may_link c.args.given.now.to now) c.args.lids.now (linkage_pointer rels x.0) [] x.1) (take c.loop-rel.rel-index c.args.given.now.links.now)) ≡ None)
    looked c.loop-rel.invariant.sees w now behind leads) (sym alike ∙ told))
    (sees_after c.args.step.now.schema.now g.V.View.cells (is_row_in (linked_keys c.args.lids.now (take c.loop-rel.rel-index c.args.given.now.links.now))) c.args.recorder.now c.loop-rel.recorder c.join_members.new.recorder
    (λ now. RefusesOr {T = List (List ℕ)} c.args.step.now.pointer.now (refuse_linkage (may_link c.args.given.now.to now) c.args.lids.now c.as_str.result.now [] c.as_slice.result.now) (λ ids. ids ≡ append_new [] (member_ids c.args.lids.now c.as_slice.result.now)) (Err c.in_err-ids.field-0.0))
    c.loop-rel.invariant.looks (c.in_err-ids.ensures.sees c.args.step.now.schema.now) w now behind leads)

pub loop-rel-preserved : goal.loop-rel-preserved
loop-rel-preserved g c =
    let lt : c.loop-rel.rel-index < length c.args.given.now.links.now = omega arith in
    let rels = relationships_of c.args.step.now.schema.now c.args.given.now.kind in
    let item = c.loop-rel-item.result in
    let pointer : c.as_str.result.now ≡ linkage_pointer rels item.0 = c.as_str.ensures ∙ c.in_ok-pointer.ensures ∙ ap (λ r. linkage_pointer r item.0) c.relationships_of-relationships.ensures.relationships in
    let looked = looks_one c.args.lids.now item c.as_slice.result.now c.loop-rel.recorder c.join_members.new.recorder c.as_slice.ensures c.join_members.ensures.looks in
    record {
      looks = looks_so_far (linked_keys c.args.lids.now) (linked_keys_split c.args.lids.now) c.args.given.now.links.now c.loop-rel.rel-index item c.args.recorder.now c.loop-rel.recorder c.join_members.new.recorder
          lt c.loop-rel-item.is c.loop-rel.invariant.looks looked;
      new = set_next c.args.lids.now c.args.given.now.links.now c.loop-rel.rel-index item c.loop-rel.new.items c.set_link.new.links.items c.in_ok-ids.ids c.as_slice.result.now
          lt c.loop-rel-item.is c.as_slice.ensures c.in_ok-ids.ensures.ids c.set_link.ensures
          ∙ c.loop-rel.invariant.new;
      sees = λ w now behind leads.
          let f : ℕ × List Member → Option Refusal = λ x. refuse_linkage (may_link c.args.given.now.to now) c.args.lids.now (linkage_pointer rels x.0) [] x.1 in
          first_so_far f c.args.given.now.links.now c.loop-rel.rel-index item lt c.loop-rel-item.is
          (sees_before c.args.step.now.schema.now g.V.View.cells (is_row_in (linked_keys c.args.lids.now (item ∷ []))) c.args.recorder.now c.loop-rel.recorder c.join_members.new.recorder
          (λ now. first_of (map (λ x. refuse_linkage (may_link c.args.given.now.to now) c.args.lids.now (linkage_pointer rels x.0) [] x.1) (take c.loop-rel.rel-index c.args.given.now.links.now)) ≡ None)
          looked c.loop-rel.invariant.sees w now behind leads)
          (sym (refused_alike (may_link c.args.given.now.to now) c.args.lids.now c.as_str.result.now (linkage_pointer rels item.0) c.as_slice.result.now item.1 pointer c.as_slice.ensures)
          ∙ (sees_after c.args.step.now.schema.now g.V.View.cells (is_row_in (linked_keys c.args.lids.now (take c.loop-rel.rel-index c.args.given.now.links.now))) c.args.recorder.now c.loop-rel.recorder c.join_members.new.recorder
          (λ now. (refuse_linkage (may_link c.args.given.now.to now) c.args.lids.now c.as_str.result.now [] c.as_slice.result.now ≡ None) × (c.in_ok-ids.ids ≡ append_new [] (member_ids c.args.lids.now c.as_slice.result.now)))
          c.loop-rel.invariant.looks (c.in_ok-ids.ensures.sees c.args.step.now.schema.now) w now behind leads).0);
    }

pub returns-clause-sees : goal.returns-clause-sees
returns-clause-sees g c =
    let e : take c.loop-rel.rel-index c.args.given.now.links.now ≡ c.args.given.now.links.now = all_taken c.args.given.now.links.now c.loop-rel.rel-index (omega arith) (omega arith) in
    let d : drop c.loop-rel.rel-index c.args.given.now.links.now ≡ [] = drop_all c.loop-rel.rel-index c.args.given.now.links.now (omega arith) in
    λ w now behind leads. (
      ap (λ ls. first_of (map (λ x. refuse_linkage (may_link c.args.given.now.to now) c.args.lids.now (linkage_pointer (relationships_of c.args.step.now.schema.now c.args.given.now.kind) x.0) [] x.1) ls)) (sym e) ∙ c.loop-rel.invariant.sees w now behind leads,
      c.from_vec.ensures ∙ sym (ap (set_links c.args.lids.now c.loop-rel.new.items) d) ∙ c.loop-rel.invariant.new,
    )
