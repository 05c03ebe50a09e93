-- A linkage with old ids: its first refusal, by its members and by its length.
use Rattle.std.proofs.Common.{◌≡◌, ℕ, ◌<◌, ◌≤◌, List, [], ◌∷◌, Bool, true, false, sym, ap, ◌∙◌, Some, None, length, arith}
use Rattle.std.specs.Prelude.{map, nat_lt}
use Rattle.std.proofs.lemmas.Bool.Decides.{nat_tests}
use Rattle.ident_rules.specs.declared.key.Key.{Key}
use Rattle.task_forms.specs.declared.operations.Member.{Member}
use Rattle.error_objects.specs.declared.codes.Code.TheVariants as code
use Rattle.error_objects.specs.declared.refusals.Refusal.{Refusal}
use Rattle.error_objects.specs.Refusals.{at_pointer}
use Rattle.world_cells.specs.declared.rows.TheConstants.{LINK_LIMIT}
use Rattle.store_model.specs.Change.{Lids, first_of, refuse_member, refuse_linkage, member_ids, append_new, when}
use Rattle.row_change.proofs.Judging.{first_before, first_behind}

above : (n : ℕ) → LINK_LIMIT < n → nat_lt LINK_LIMIT n ≡ true
above n h = grind (arith, nat_tests)

within : (n : ℕ) → n ≤ LINK_LIMIT → nat_lt LINK_LIMIT n ≡ false
within n h = grind (arith, nat_tests)

module _ (there : Key → Bool) (lids : Lids) (linkage : List ℕ) (old : List (List ℕ)) (members : List Member) where
  -- a member is refused
  pub linkage_refused : (r : Refusal) → first_of (map (refuse_member there lids linkage) members) ≡ Some r → refuse_linkage there lids linkage old members ≡ Some r
  linkage_refused r told = first_before (map (refuse_member there lids linkage) members) (when (nat_lt LINK_LIMIT (length (append_new old (member_ids lids members)))) (at_pointer code.TooManyMembers linkage) ∷ []) r told

  judged : (n : ℕ) (b : Bool) → n ≡ length (append_new old (member_ids lids members)) → nat_lt LINK_LIMIT n ≡ b → first_of (map (refuse_member there lids linkage) members) ≡ None
      → refuse_linkage there lids linkage old members ≡ when b (at_pointer code.TooManyMembers linkage)
  judged n b is tested none =
      first_behind (map (refuse_member there lids linkage) members) (when (nat_lt LINK_LIMIT (length (append_new old (member_ids lids members)))) (at_pointer code.TooManyMembers linkage)) none
      ∙ ap (λ m. when (nat_lt LINK_LIMIT m) (at_pointer code.TooManyMembers linkage)) (sym is)
      ∙ ap (λ x. when x (at_pointer code.TooManyMembers linkage)) tested

  -- no member is, but there are too many ids
  pub linkage_long : (n : ℕ) → n ≡ length (append_new old (member_ids lids members)) → LINK_LIMIT < n → first_of (map (refuse_member there lids linkage) members) ≡ None
      → refuse_linkage there lids linkage old members ≡ Some (at_pointer code.TooManyMembers linkage)
  linkage_long n is long none = judged n true is (above n long) none

  -- neither
  pub linkage_good : (n : ℕ) → n ≡ length (append_new old (member_ids lids members)) → n ≤ LINK_LIMIT → first_of (map (refuse_member there lids linkage) members) ≡ None
      → refuse_linkage there lids linkage old members ≡ None
  linkage_good n is short none = judged n false is (within n short) none
