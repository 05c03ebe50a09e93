-- Parts of a value whose names stand in byte order, and of one whose objects are read.
use Rattle.std.specs.Prelude.{ℕ, List, map, Option, Some, None, IfSome}
use Rattle.std.specs.List.{AllByRecursion}
use Rattle.std.specs.Ordering.{nat_cmp, match_ordering}
use Rattle.std.specs.declared.cmp.Ordering.{Ordering}
use Rattle.std.specs.declared.cmp.Ordering.TheVariants.{Less, Equal, Greater}
use Rattle.std.specs.Cmp.Lexicographic.{slice_cmp}
use Rattle.std.proofs.Common.{◌≡◌, sym, subst}
use Rattle.serde_json.specs.Data.{Data, null, boolean, number, string, array, object, Items, no_items, item, Members, no_members, member}
use Rattle.serde_json.specs.Find.{get, get_member, as_object, as_array}
use Rattle.json_forms.specs.Json.{items_list, members_list}
use Rattle.json_forms.specs.Order.{IsInByteOrder, AreInByteOrder, MembersAreInByteOrder}
use Rattle.request_model.proofs.Ascents.{Ascends, name_of, members-ascend, members-in_order}

pub as_object-is : (d : Data) (ms : Members) → as_object d ≡ Some ms → d ≡ object ms
as_object-is null ms e = cc e
as_object-is (boolean b) ms e = cc e
as_object-is (number n) ms e = cc e
as_object-is (string s) ms e = cc e
as_object-is (array ds) ms e = cc e
as_object-is (object ns) ms e = cc e

pub as_array-is : (d : Data) (ds : Items) → as_array d ≡ Some ds → d ≡ array ds
as_array-is null ds e = cc e
as_array-is (boolean b) ds e = cc e
as_array-is (number n) ds e = cc e
as_array-is (string s) ds e = cc e
as_array-is (array es) ds e = cc e
as_array-is (object ms) ds e = cc e

-- the members stand in byte order, and so does all that is in them
pub object-ordered : (d : Data) (ms : Members) → IsInByteOrder d → as_object d ≡ Some ms → Ascends (map name_of (members_list ms)) × AllByRecursion (λ m. IsInByteOrder m.1) (members_list ms)
object-ordered d ms order e =
    let whole : IsInByteOrder (object ms) = subst IsInByteOrder (as_object-is d ms e) order in
    (members-ascend ms whole.0, members-in_order ms whole.1)

items-in_order : (ds : Items) → AreInByteOrder ds → AllByRecursion IsInByteOrder (items_list ds)
items-in_order no_items a = tt
items-in_order (item d ds) a = (a.0, items-in_order ds a.1)

pub array-ordered : (d : Data) (ds : Items) → IsInByteOrder d → as_array d ≡ Some ds → AllByRecursion IsInByteOrder (items_list ds)
array-ordered d ds order e =
    let whole : IsInByteOrder (array ds) = subst IsInByteOrder (as_array-is d ds e) order in
    items-in_order ds whole

by_order : (o : Ordering) (d e : Data) (rest : Option Data) → IsInByteOrder e → IfSome rest IsInByteOrder → IfSome (match_ordering o rest (Some e) rest) IsInByteOrder
by_order Less d e rest a b = b
by_order Equal d e rest a b = a
by_order Greater d e rest a b = b

get_member-ordered : (name : List ℕ) (ms : Members) → MembersAreInByteOrder ms → IfSome (get_member name ms) IsInByteOrder
get_member-ordered name no_members a = tt
get_member-ordered name (member k d ms) a = by_order (slice_cmp nat_cmp name k) d d (get_member name ms) a.0 (get_member-ordered name ms a.1)

-- a member of such a value is one
pub get-ordered : (name : List ℕ) (d : Data) → IsInByteOrder d → IfSome (get name d) IsInByteOrder
get-ordered name null order = tt
get-ordered name (boolean b) order = tt
get-ordered name (number n) order = tt
get-ordered name (string s) order = tt
get-ordered name (array ds) order = tt
get-ordered name (object ms) order = get_member-ordered name ms order.1

pub found-ordered : (name : List ℕ) (d e : Data) → IsInByteOrder d → get name d ≡ Some e → IsInByteOrder e
found-ordered name d e order found = if_some (get name d) e found (get-ordered name d order) where
  if_some : (o : Option Data) (e : Data) → o ≡ Some e → IfSome o IsInByteOrder → IsInByteOrder e
  if_some None e found a = cc found
  if_some (Some x) e found a = let same : x ≡ e = cc found in rw (sym same) a
