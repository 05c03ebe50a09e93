-- Names of members in byte order (of this project: RFC 8259, section 4, leaves the order open).
use Rattle.std.specs.Prelude.{◌≡◌, ℕ, List, ⊤}
use Rattle.std.specs.Ordering.{nat_cmp}
use Rattle.std.specs.declared.cmp.Ordering.TheVariants.{Less}
use Rattle.std.specs.Cmp.Lexicographic.{slice_cmp}
use Rattle.serde_json.specs.Data.{Data, null, boolean, number, string, array, object, Items, no_items, item, Members, no_members, member}

-- one name stands before another
abbrev pub IsBefore : List ℕ → List ℕ → Type 0
IsBefore k l = slice_cmp nat_cmp k l ≡ Less

-- each name stands behind k
abbrev pub AreBehind : List ℕ → Members → Type 0
AreBehind k no_members = ⊤
AreBehind k (member l d ms) = IsBefore k l × AreBehind k ms

-- the names strictly ascend, so that no two are equal
abbrev pub AreAscending : Members → Type 0
AreAscending no_members = ⊤
AreAscending (member k d ms) = AreBehind k ms × AreAscending ms

-- the names of each object in the value strictly ascend
abbrev mutual
  pub IsInByteOrder : Data → Type 0
  IsInByteOrder null = ⊤
  IsInByteOrder (boolean b) = ⊤
  IsInByteOrder (number n) = ⊤
  IsInByteOrder (string s) = ⊤
  IsInByteOrder (array ds) = AreInByteOrder ds
  IsInByteOrder (object ms) = AreAscending ms × MembersAreInByteOrder ms

  pub AreInByteOrder : Items → Type 0
  AreInByteOrder no_items = ⊤
  AreInByteOrder (item d ds) = IsInByteOrder d × AreInByteOrder ds

  pub MembersAreInByteOrder : Members → Type 0
  MembersAreInByteOrder no_members = ⊤
  MembersAreInByteOrder (member k d ms) = IsInByteOrder d × MembersAreInByteOrder ms
