-- The members of an object as the entries of a map.
use Rattle.std.proofs.Common.{◌≡◌, suc, List, [], ◌∷◌, length, refl, ap}
use Rattle.std.specs.Prelude.{String, string_bytes}
use Rattle.std.specs.declared.alloc.Global.{Global}
use Rattle.std.specs.Ordering.{nat_cmp}
use Rattle.std.specs.declared.cmp.Ordering.{Ordering}
use Rattle.std.specs.declared.cmp.Ordering.TheVariants.{Less}
use Rattle.std.specs.Cmp.Lexicographic.{slice_cmp}
use Rattle.std.specs.List.{AllByRecursion}
use Rattle.std.specs.List.Sorted.{IsStrictlySortedBy}
use Rattle.std.specs.Map.{keys_of}
use Rattle.serde_json.specs.View.{members_view}
use Rattle.serde_json.specs.declared.value.Value.{Value}
use Rattle.json_forms.specs.Json.{members_list}
use Rattle.json_forms.specs.Order.{AreAscending, AreBehind}

pub length-members : (es : List (String Global × Value)) → length (members_list (members_view es)) ≡ length es
length-members [] = refl
length-members (e ∷ es) = ap suc (length-members es)

module _ (cmp : String Global → String Global → Ordering) (by_bytes : (a b : String Global) → cmp a b ≡ slice_cmp nat_cmp (string_bytes a) (string_bytes b)) where
  behind : (k : String Global) (es : List (String Global × Value)) → AllByRecursion (λ l. cmp k l ≡ Less) (keys_of es) → AreBehind (string_bytes k) (members_view es)
  behind k [] a = tt
  behind k (e ∷ es) a = (sym_less k e.0 a.0, behind k es a.1) where
    sym_less : (k l : String Global) → cmp k l ≡ Less → slice_cmp nat_cmp (string_bytes k) (string_bytes l) ≡ Less
    sym_less k l less = let same = by_bytes k l in cc (same, less)

  pub ascending : (es : List (String Global × Value)) → IsStrictlySortedBy cmp (keys_of es) → AreAscending (members_view es)
  unfolding IsStrictlySortedBy
  ascending [] s = tt
  ascending (e ∷ es) s = (behind e.0 es s.0, ascending es s.1)
