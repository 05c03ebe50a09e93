-- To put members whose names ascend is to list them.
use Rattle.std.proofs.Common.{◌≡◌, ℕ, List, [], ◌∷◌, ◌++◌, length, String, Global, refl, ap, ◌∙◌}
use Rattle.std.specs.Prelude.{codes}
use Rattle.std.specs.declared.cmp.Ordering.TheVariants.{Greater}
use Rattle.std.specs.Ordering.{nat_cmp, match_ordering, ordering_reverse}
use Rattle.std.specs.Cmp.Lexicographic.{slice_cmp, nat_list_cmp_total}
use Rattle.serde_json.specs.Data.{Data, string, object, Members, no_members, member, put}
use Rattle.serde_json.specs.View.{members_view}
use Rattle.serde_json.specs.declared.value.Value.{Value}
use Rattle.json_forms.specs.Order.{AreBehind, AreAscending}
use Rattle.store_model.specs.Resource.{members_of, member_unless_empty}
use Rattle.resource_objects.specs.Objects.{put_unless_none, unless_none}

-- the members, with these put in their order
abbrev pub put_members : Members → Members → Members
put_members no_members ms = ms
put_members (member k d more) ms = put_members more (put k d ms)

-- a member before them stays the first
put_members-behind : (k : List ℕ) (d : Data) (more ms : Members) → AreBehind k more → put_members more (member k d ms) ≡ member k d (put_members more ms)
put_members-behind k d no_members ms h = refl
put_members-behind k d (member l e more) ms h =
    let after : slice_cmp nat_cmp l k ≡ Greater = nat_list_cmp_total.antisymm l k ∙ ap ordering_reverse h.0 in
    ap (λ o. put_members more (match_ordering o (member l e (member k d ms)) (member k e ms) (member k d (put l e ms)))) after
    ∙ put_members-behind k d more (put l e ms) h.1

pub put_members-ascending : (ms : Members) → AreAscending ms → put_members ms no_members ≡ ms
put_members-ascending no_members h = refl
put_members-ascending (member k d more) h = put_members-behind k d more no_members h.0 ∙ ap (member k d) (put_members-ascending more h.1)

-- ---- the members of a resource object

pub resource_parts-listed : (attributes relationships : Members) (id kind : List ℕ) (links : Data)
    → put (codes "type") (string kind) (put_unless_none (codes "relationships") relationships (put (codes "links") links (put (codes "id") (string id) (put_unless_none (codes "attributes") attributes no_members))))
    ≡ members_of (unless_none (codes "attributes") attributes ++ (codes "id", string id) ∷ (codes "links", links) ∷ (unless_none (codes "relationships") relationships ++ (codes "type", string kind) ∷ []))
resource_parts-listed no_members no_members id kind links = refl
resource_parts-listed no_members (member l e ms) id kind links = refl
resource_parts-listed (member k d ms) no_members id kind links = refl
resource_parts-listed (member k d ms) (member l e ns) id kind links = refl

pub unless_none-is : (name : List ℕ) (ms : List (List ℕ × Data)) → unless_none name (members_of ms) ≡ member_unless_empty name ms
unless_none-is name [] = refl
unless_none-is name (m ∷ ms) = refl

-- ---- an object that is not empty is put

pub put_unless_none-some : (name : List ℕ) (es : List (String Global × Value)) (ms : Members) → ¬ (length es ≡ 0) → put name (object (members_view es)) ms ≡ put_unless_none name (members_view es) ms
put_unless_none-some name [] ms some = absurd (some refl)
put_unless_none-some name (e ∷ es) ms some = refl
