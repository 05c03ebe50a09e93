-- Where a link may lead: the tests of a row, and the refusal of one member.
use Rattle.std.proofs.Common.{◌≡◌, ℕ, List, ◌++◌, Bool, true, false, sym, ap, subst, ◌∙◌, Some, None, Result, Ok, Err}
use Rattle.std.specs.Prelude.{◌||◌, IfOk, not}
use Rattle.ident_rules.specs.declared.key.Key.{Key}
use Rattle.ident_rules.specs.declared.memory.NoMemory.{NoMemory}
use Rattle.ident_rules.specs.Key.{same_key}
use Rattle.world_cells.specs.World.{World, has_row}
use Rattle.task_forms.specs.declared.operations.Member.{Member}
use Rattle.error_objects.specs.declared.codes.Code.TheVariants as code
use Rattle.error_objects.specs.Refusals.{at_pointer}
use Rattle.store_model.specs.Change.{Lids, key_of, refuse_named, refuse_member, pointer_of_member, name_pointer, when}
use Rattle.row_change.specs.declared.places.MayLinkTo.{MayLinkTo}
use Rattle.row_change.specs.declared.places.MayLinkTo.TheVariants as there
use Rattle.row_change.specs.Places.{may_link}

pub there_row : (t : MayLinkTo) (now : World) (key : Key) (result : Result Bool NoMemory) → t ≡ there.AtRow → IfOk result (λ b. b ≡ has_row now key) → IfOk result (λ b. b ≡ may_link t now key)
there_row t now key result is h = subst (λ (x : MayLinkTo). IfOk result (λ b. b ≡ may_link x now key)) (sym is) h

pub there_own : (t : MayLinkTo) (own : Key) (now : World) (key : Key) (result : Result Bool NoMemory) → t ≡ there.AtRowOr own → same_key own key ≡ false → IfOk result (λ b. b ≡ has_row now key)
    → IfOk result (λ b. b ≡ may_link t now key)
there_own t own now key result is other h = subst (λ (x : MayLinkTo). IfOk result (λ b. b ≡ may_link x now key)) (sym is) (same result h)
  where
    same : (r : Result Bool NoMemory) → IfOk r (λ b. b ≡ has_row now key) → IfOk r (λ b. b ≡ (same_key own key || has_row now key))
    same (Ok b) e = e ∙ sym (ap (λ s. s || has_row now key) other)
    same (Err x) e = e

-- ---- one member

pub member_unbound : (test : Key → Bool) (lids : Lids) (linkage : List ℕ) (m : Member) → key_of lids m.named ≡ None
    → refuse_member test lids linkage m ≡ Some (at_pointer code.UnknownLid (pointer_of_member linkage m ++ name_pointer m.named))
member_unbound test lids linkage m is = ap (refuse_named test (pointer_of_member linkage m ++ name_pointer m.named)) is

judged : (test : Key → Bool) (lids : Lids) (linkage : List ℕ) (m : Member) (key : Key) (b : Bool) → key_of lids m.named ≡ Some key → b ≡ test key
    → refuse_member test lids linkage m ≡ when (not b) (at_pointer code.RelatedNotFound (pointer_of_member linkage m ++ name_pointer m.named))
judged test lids linkage m key b is tested =
    ap (refuse_named test (pointer_of_member linkage m ++ name_pointer m.named)) is
    ∙ ap (λ x. when (not x) (at_pointer code.RelatedNotFound (pointer_of_member linkage m ++ name_pointer m.named))) (sym tested)

pub member_there : (test : Key → Bool) (lids : Lids) (linkage : List ℕ) (m : Member) (key : Key) (b : Bool) → key_of lids m.named ≡ Some key → b ≡ test key → b ≡ true
    → refuse_member test lids linkage m ≡ None
member_there test lids linkage m key b is tested passes =
    judged test lids linkage m key b is tested ∙ ap (λ x. when (not x) (at_pointer code.RelatedNotFound (pointer_of_member linkage m ++ name_pointer m.named))) passes

pub member_missing : (test : Key → Bool) (lids : Lids) (linkage : List ℕ) (m : Member) (key : Key) (b : Bool) → key_of lids m.named ≡ Some key → b ≡ test key → b ≡ false
    → refuse_member test lids linkage m ≡ Some (at_pointer code.RelatedNotFound (pointer_of_member linkage m ++ name_pointer m.named))
member_missing test lids linkage m key b is tested missing =
    judged test lids linkage m key b is tested ∙ ap (λ x. when (not x) (at_pointer code.RelatedNotFound (pointer_of_member linkage m ++ name_pointer m.named))) missing
