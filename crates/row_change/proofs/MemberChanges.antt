-- A change of one link: what is told of the ids behind it, and of the operation.
use Rattle.std.proofs.Common.{◌≡◌, ℕ, List, [], ◌∷◌, ◌++◌, true, refl, sym, ap, subst, ◌∙◌, Option, Some, None, Result, append-nil}
use Rattle.std.specs.Prelude.{codes, map, IsTrue}
use Rattle.resource_schema.specs.declared.schema.Schema.{Schema}
use Rattle.world_cells.specs.declared.keys.CellKey.{CellKey}
use Rattle.world_cells.specs.World.{World}
use Rattle.error_objects.specs.declared.refusals.Refusal.{Refusal}
use Rattle.task_forms.specs.declared.operations.Member.{Member}
use Rattle.task_forms.specs.declared.operations.Who.{Who}
use Rattle.ident_rules.specs.declared.key.Key.{Key}
use Rattle.ident_rules.specs.declared.step_errors.StepError.{StepError}
use Rattle.store_model.specs.Change.{Lids, first_of, refused, done, refuse_target, refuse_member, refuse_linkage, named_ids, member_ids, append_new, on_row, on_link}
use Rattle.store_model.specs.Reach.{is_row_in, target_keys, reach_operation}
use Rattle.trial_steps.specs.Steps.{RefusesOr}
use Rattle.row_change.specs.declared.places.MayLinkTo.{MayLinkTo}
use Rattle.row_change.specs.declared.linkages.Linkage.{Linkage}
use Rattle.row_change.specs.declared.members.LinkChange.{LinkChange}
use Rattle.row_change.specs.declared.members.LinkChange.TheVariants as change
use Rattle.row_change.specs.Places.{may_link}
use Rattle.row_change.specs.Linkages.{refuse_all, AreNamed, refuse_joined, AreJoined}
use Rattle.row_change.specs.LinkChanges.{operation_by, keys_by, refuse_by, ids_by}
use Rattle.row_change.proofs.RewriteOutcomes.{first_alone}

-- ---- what is told of a linkage, by what it is

module _ (at : List ℕ) (lids : Lids) (linkage : Linkage) (t : MayLinkTo) (members : List Member) (now : World) (result : Result (List (List ℕ)) (StepError Refusal))
    (to_is : linkage.to ≡ t) (pointer_is : linkage.pointer.now ≡ codes "/data") (members_are : linkage.members.now ≡ members) where
  pub told_joined : (old : List (List ℕ)) → RefusesOr at (refuse_joined linkage lids old now) (AreJoined linkage lids old) result
      → RefusesOr at (refuse_linkage (may_link t now) lids (codes "/data") old members) (λ ids. ids ≡ append_new old (member_ids lids members)) result
  told_joined old told =
      let P : MayLinkTo → List ℕ → List Member → Type 0 = λ x p ms. RefusesOr at (refuse_linkage (may_link x now) lids p old ms) (λ ids. ids ≡ append_new old (member_ids lids ms)) result in
      subst (λ (x : MayLinkTo). P x (codes "/data") members) to_is
      (subst (λ (p : List ℕ). P linkage.to p members) pointer_is (subst (λ (ms : List Member). P linkage.to linkage.pointer.now ms) members_are told))

  pub told_named : RefusesOr at (refuse_all linkage lids now) (AreNamed linkage lids) result
      → RefusesOr at (first_of (map (refuse_member (may_link t now) lids (codes "/data")) members)) (λ ids. ids ≡ member_ids lids members) result
  told_named told =
      let P : MayLinkTo → List ℕ → List Member → Type 0 = λ x p ms. RefusesOr at (first_of (map (refuse_member (may_link x now) lids p) ms)) (λ ids. ids ≡ member_ids lids ms) result in
      subst (λ (x : MayLinkTo). P x (codes "/data") members) to_is
      (subst (λ (p : List ℕ). P linkage.to p members) pointer_is (subst (λ (ms : List Member). P linkage.to linkage.pointer.now ms) members_are told))

-- ---- the operation

last_first : (target : Option Refusal) (rest : List (Option Refusal)) → first_of (target ∷ rest) ≡ first_of (target ∷ first_of rest ∷ [])
last_first None rest = sym (first_alone (first_of rest))
last_first (Some r) rest = refl

module _ (schema : Schema) (now : World) (lids : Lids) (who : Who) (rel : ℕ) (members : List Member) where
  -- its checks, in order
  pub refused_by : (c : LinkChange) → refused schema now lids (operation_by c who rel members) ≡ first_of (refuse_target now lids who ∷ refuse_by c lids (named_ids now lids who rel) members now ∷ [])
  refused_by change.Set = refl
  refused_by change.Add = refl
  refused_by change.Remove = last_first (refuse_target now lids who) (map (refuse_member (λ k. true) lids (codes "/data")) members)

  pub target_first : (c : LinkChange) (r : Refusal) → refuse_target now lids who ≡ Some r → refused schema now lids (operation_by c who rel members) ≡ Some r
  target_first c r is = refused_by c ∙ ap (λ o. first_of (o ∷ refuse_by c lids (named_ids now lids who rel) members now ∷ [])) is

  -- where the resource is there, what its members are refused for
  pub members_then : (c : LinkChange) (old : List (List ℕ)) → refuse_target now lids who ≡ None → old ≡ named_ids now lids who rel
      → refused schema now lids (operation_by c who rel members) ≡ refuse_by c lids old members now
  members_then c old none is =
      refused_by c
      ∙ ap (λ o. first_of (o ∷ refuse_by c lids (named_ids now lids who rel) members now ∷ [])) none
      ∙ first_alone (refuse_by c lids (named_ids now lids who rel) members now)
      ∙ ap (λ ids. refuse_by c lids ids members now) (sym is)

  pub world_by : (c : LinkChange) → (done schema now lids (operation_by c who rel members)).world ≡ on_row now lids who (on_link rel (ids_by c (member_ids lids members)))
  world_by change.Set = refl
  world_by change.Add = refl
  world_by change.Remove = refl

  pub lids_by : (c : LinkChange) → (done schema now lids (operation_by c who rel members)).lids ≡ lids
  lids_by change.Set = refl
  lids_by change.Add = refl
  lids_by change.Remove = refl

  pub no_key_by : (c : LinkChange) → (done schema now lids (operation_by c who rel members)).key ≡ None
  no_key_by change.Set = refl
  no_key_by change.Add = refl
  no_key_by change.Remove = refl

  pub reach_by : (c : LinkChange) (k : CellKey) → IsTrue (is_row_in (target_keys lids who ++ keys_by c lids members) k) → IsTrue (reach_operation now lids (operation_by c who rel members) k)
  reach_by change.Set k e = e
  reach_by change.Add k e = e
  reach_by change.Remove k e = subst (λ (keys : List Key). IsTrue (is_row_in keys k)) (append-nil (target_keys lids who)) e
