-- The members of a linkage: what is told of them, by what was passed.
use Rattle.std.proofs.Common.{◌≡◌, ℕ, ◌+◌, ◌<◌, List, [], ◌∷◌, ◌++◌, Bool, true, false, refl, sym, ap, subst, ◌∙◌, Some, Result, length, get_or, take, append-nil}
use Rattle.std.specs.Prelude.{◌||◌, cond, map, not, nat_eq}
use Rattle.std.specs.List.{filter, list_any}
use Rattle.std.specs.Option.{option_map_or}
use Rattle.std.specs.Cmp.Lexicographic.{pointwise, nat_list_eq_equiv}
use Rattle.std.proofs.lemmas.List.{length-set}
use Rattle.std.proofs.lemmas.List.Elements.{filter-append}
use Rattle.ident_rules.specs.declared.key.Key.{Key}
use Rattle.ident_rules.specs.IdOrder.{id_cmp_ties}
use Rattle.world_cells.specs.declared.rows.Row.{Row}
use Rattle.world_cells.specs.World.{World, ids_of, link_at}
use Rattle.task_forms.specs.declared.operations.Member.{Member}
use Rattle.task_forms.specs.declared.operations.Who.{Who}
use Rattle.store_model.specs.Valid.{same_id}
use Rattle.store_model.specs.Change.{Lids, named_row, named_ids, refuse_member, refuse_linkage, first_of, append_new, member_ids, on_link}
use Rattle.error_objects.specs.declared.refusals.Refusal.{Refusal}
use Rattle.ident_rules.specs.declared.step_errors.StepError.{StepError}
use Rattle.trial_steps.specs.Steps.{RefusesOr}
use Rattle.row_change.proofs.Judging.{next_taken}

-- ---- what is told, by what was passed

pub judged_joined : (at : List ℕ) (lids : Lids) (there : Key → Bool) (linkage : List ℕ) (old old' : List (List ℕ)) (members members' : List Member) (result : Result (List (List ℕ)) (StepError Refusal))
    → old ≡ old' → members ≡ members'
    → RefusesOr at (refuse_linkage there lids linkage old members) (λ ids. ids ≡ append_new old (member_ids lids members)) result
    → RefusesOr at (refuse_linkage there lids linkage old' members') (λ ids. ids ≡ append_new old' (member_ids lids members')) result
judged_joined at lids there linkage old old' members members' result same_old same_members told =
    subst (λ (ms : List Member). RefusesOr at (refuse_linkage there lids linkage old' ms) (λ ids. ids ≡ append_new old' (member_ids lids ms)) result) same_members
    (subst (λ (o : List (List ℕ)). RefusesOr at (refuse_linkage there lids linkage o members) (λ ids. ids ≡ append_new o (member_ids lids members)) result) same_old told)

pub judged_members : (at : List ℕ) (lids : Lids) (there : Key → Bool) (linkage : List ℕ) (members members' : List Member) (result : Result (List (List ℕ)) (StepError Refusal))
    → members ≡ members'
    → RefusesOr at (first_of (map (refuse_member there lids linkage) members)) (λ ids. ids ≡ member_ids lids members) result
    → RefusesOr at (first_of (map (refuse_member there lids linkage) members')) (λ ids. ids ≡ member_ids lids members') result
judged_members at lids there linkage members members' result same told =
    subst (λ (ms : List Member). RefusesOr at (first_of (map (refuse_member there lids linkage) ms)) (λ ids. ids ≡ member_ids lids ms) result) same told

-- the ids of the row that is named
pub named_ids_are : (now : World) (lids : Lids) (who : Who) (rel : ℕ) (row : Row) → named_row now lids who ≡ Some row → ids_of (link_at row rel) ≡ named_ids now lids who rel
named_ids_are now lids who rel row is = sym (ap (λ o. option_map_or (λ r. ids_of (link_at r rel)) o []) is)

-- as many links as before
pub on_link_length : (rel : ℕ) (change : List (List ℕ) → List (List ℕ)) (row : Row) → length ((on_link rel change row).links) ≡ length row.links
on_link_length rel change row = length-set row.links rel _

-- ---- ids that are dropped

listed : (x : List ℕ) (xs : List (List ℕ)) → list_any (λ y. pointwise nat_eq y x) xs ≡ list_any (same_id x) xs
listed x [] = refl
listed x (y ∷ xs) = ap (λ b. b || list_any (λ z. pointwise nat_eq z x) xs) (nat_list_eq_equiv.symm y x ∙ id_cmp_ties x y) ∙ ap (λ b. same_id x y || b) (listed x xs)

next_left : (p : List ℕ → Bool) (ids : List (List ℕ)) (i : ℕ) (x : List ℕ) (left : List (List ℕ)) → i < length ids → x ≡ get_or ids i x → left ≡ filter p (take i ids)
    → left ++ filter p (x ∷ []) ≡ filter p (take (i + 1) ids)
next_left p ids i x left lt is so_far = ap (λ l. l ++ filter p (x ∷ [])) so_far ∙ sym (ap (filter p) (next_taken ids i x lt is) ∙ filter-append p (take i ids) (x ∷ []))

filter_one : (p : List ℕ → Bool) (x : List ℕ) (b : Bool) → p x ≡ b → filter p (x ∷ []) ≡ cond b (x ∷ []) []
filter_one p x b is = ap (λ t. cond t (x ∷ []) []) is

pub left_more : (dropped ids : List (List ℕ)) (i : ℕ) (x : List ℕ) (left : List (List ℕ)) → i < length ids → x ≡ get_or ids i x
    → list_any (λ y. pointwise nat_eq y x) dropped ≡ false → left ≡ filter (λ y. not (list_any (same_id y) dropped)) (take i ids)
    → left ++ x ∷ [] ≡ filter (λ y. not (list_any (same_id y) dropped)) (take (i + 1) ids)
left_more dropped ids i x left lt is out so_far =
    let p : List ℕ → Bool = λ y. not (list_any (same_id y) dropped) in
    ap (λ l. left ++ l) (sym (filter_one p x true (ap not (sym (listed x dropped) ∙ out)))) ∙ next_left p ids i x left lt is so_far

pub left_same : (dropped ids : List (List ℕ)) (i : ℕ) (x : List ℕ) (left : List (List ℕ)) → i < length ids → x ≡ get_or ids i x
    → list_any (λ y. pointwise nat_eq y x) dropped ≡ true → left ≡ filter (λ y. not (list_any (same_id y) dropped)) (take i ids)
    → left ≡ filter (λ y. not (list_any (same_id y) dropped)) (take (i + 1) ids)
left_same dropped ids i x left lt is out so_far =
    let p : List ℕ → Bool = λ y. not (list_any (same_id y) dropped) in
    sym (append-nil left) ∙ ap (λ l. left ++ l) (sym (filter_one p x false (ap not (sym (listed x dropped) ∙ out)))) ∙ next_left p ids i x left lt is so_far
