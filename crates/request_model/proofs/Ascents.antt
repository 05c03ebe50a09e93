-- Texts in byte order: lists of them that strictly ascend, and places in such lists.
use Rattle.std.specs.Prelude.{ℕ, Bool, true, false, List, [], ◌∷◌, map, filter, Some, slice_get, zero, suc, ◌<◌, ⊤}
use Rattle.std.specs.List.{AllByRecursion}
use Rattle.std.specs.Ordering.{nat_cmp, is_lt}
use Rattle.std.specs.declared.cmp.Ordering.{Ordering}
use Rattle.std.specs.declared.cmp.Ordering.TheVariants.{Less, Equal, Greater}
use Rattle.std.specs.Cmp.{tied_itself}
use Rattle.std.specs.Cmp.Lexicographic.{slice_cmp, nat_list_cmp_total}
use Rattle.std.proofs.Common.{◌≡◌, refl, sym, arith, cond}
use Rattle.std.proofs.lemmas.Bool.{and_parts}
use Rattle.serde_json.specs.Data.{Data, Members, no_members, member}
use Rattle.json_forms.specs.Json.{members_list}
use Rattle.json_forms.specs.Order.{IsBefore, AreBehind, AreAscending, IsInByteOrder, MembersAreInByteOrder}
use Rattle.resource_schema.specs.SchemaRules.{are_rising}
use Rattle.request_model.proofs.Zips.{all-into}

-- each text stands before all texts behind it
abbrev pub Ascends : List (List ℕ) → Type 0
Ascends [] = ⊤
Ascends (x ∷ xs) = AllByRecursion (IsBefore x) xs × Ascends xs

less : (o : Ordering) → is_lt o ≡ true → o ≡ Less
less Less e = refl
less Equal e = cc e
less Greater e = cc e

before-trans : (x y z : List ℕ) → IsBefore x y → IsBefore y z → IsBefore x z
before-trans x y z p q = nat_list_cmp_total.trans x y z p q

not_before_itself : (x : List ℕ) → IsBefore x x → ⊥
not_before_itself x p = cc (p, tied_itself nat_list_cmp_total x)

not_both : (x y : List ℕ) → IsBefore x y → IsBefore y x → ⊥
not_both x y p q = not_before_itself x (before-trans x y x p q)

-- the test of resource_schema says the same
pub ascends-from_test : (xs : List (List ℕ)) → are_rising xs ≡ true → Ascends xs
ascends-from_test [] e = tt
ascends-from_test (x ∷ []) e = (tt, tt)
ascends-from_test (x ∷ y ∷ more) e =
    let parts = and_parts (is_lt (slice_cmp nat_cmp x y)) (are_rising (y ∷ more)) e in
    let first = less (slice_cmp nat_cmp x y) parts.0 in
    let rest = ascends-from_test (y ∷ more) parts.1 in
    ((first, all-into (IsBefore y) (IsBefore x) more (λ z q. before-trans x y z first q) rest.0), rest)

pub test-from_ascends : (xs : List (List ℕ)) → Ascends xs → are_rising xs ≡ true
test-from_ascends [] a = refl
test-from_ascends (x ∷ []) a = refl
test-from_ascends (x ∷ y ∷ more) a = rw a.0.0 (test-from_ascends (y ∷ more) a.1)

-- ---- members of an object

abbrev pub name_of : List ℕ × Data → List ℕ
name_of m = m.0

behind : (k : List ℕ) (ms : Members) → AreBehind k ms → AllByRecursion (IsBefore k) (map name_of (members_list ms))
behind k no_members b = tt
behind k (member l d ms) b = (b.0, behind k ms b.1)

pub members-ascend : (ms : Members) → AreAscending ms → Ascends (map name_of (members_list ms))
members-ascend no_members a = tt
members-ascend (member k d ms) a = (behind k ms a.0, members-ascend ms a.1)

pub members-in_order : (ms : Members) → MembersAreInByteOrder ms → AllByRecursion (λ m. IsInByteOrder m.1) (members_list ms)
members-in_order no_members a = tt
members-in_order (member k d ms) a = (a.0, members-in_order ms a.1)

behind-filter : (k : List ℕ) (test : List ℕ × Data → Bool) (ms : List (List ℕ × Data)) → AllByRecursion (IsBefore k) (map name_of ms) → AllByRecursion (IsBefore k) (map name_of (filter test ms))
behind-filter k test [] a = tt
behind-filter k test (m ∷ ms) a = by_test (test m) (behind-filter k test ms a.1) where
  by_test : (b : Bool) → AllByRecursion (IsBefore k) (map name_of (filter test ms)) → AllByRecursion (IsBefore k) (map name_of (cond b (m ∷ filter test ms) (filter test ms)))
  by_test true rest = (a.0, rest)
  by_test false rest = rest

pub filter-ascends : (test : List ℕ × Data → Bool) (ms : List (List ℕ × Data)) → Ascends (map name_of ms) → Ascends (map name_of (filter test ms))
filter-ascends test [] a = tt
filter-ascends test (m ∷ ms) a = by_test (test m) (behind-filter m.0 test ms a.0) (filter-ascends test ms a.1) where
  by_test : (b : Bool) → AllByRecursion (IsBefore m.0) (map name_of (filter test ms)) → Ascends (map name_of (filter test ms)) → Ascends (map name_of (cond b (m ∷ filter test ms) (filter test ms)))
  by_test true first rest = (first, rest)
  by_test false first rest = rest

-- ---- places

-- of two places in such a list, the one of the text that stands before is the lesser
module _ {X : Type 0} (name : X → List ℕ) where
  above-first : (x : X) (xs : List X) (i : ℕ) (y : X) → AllByRecursion (IsBefore (name x)) (map name xs) → slice_get xs i ≡ Some y → IsBefore (name x) (name y)
  above-first x [] i y a e = cc e
  above-first x (z ∷ zs) zero y a e = let same : z ≡ y = cc e in rw (sym same) a.0
  above-first x (z ∷ zs) (suc i) y a e = above-first x zs i y a.1 e

  pub place-rises : (xs : List X) (i j : ℕ) (x y : X) → Ascends (map name xs) → slice_get xs i ≡ Some x → slice_get xs j ≡ Some y → IsBefore (name x) (name y) → i < j
  place-rises [] i j x y a e f p = cc e
  place-rises (z ∷ zs) zero zero x y a e f p = let same : x ≡ y = cc (e, f) in absurd (not_before_itself (name y) (subst_first same p)) where
    subst_first : x ≡ y → IsBefore (name x) (name y) → IsBefore (name y) (name y)
    subst_first s p = rw s at p
  place-rises (z ∷ zs) zero (suc j) x y a e f p = omega arith
  place-rises (z ∷ zs) (suc i) zero x y a e f p =
      let q : IsBefore (name z) (name x) = above-first z zs i x a.0 e in
      let same : z ≡ y = cc f in
      absurd (not_both (name x) (name y) p (rw (sym same) q))
  place-rises (z ∷ zs) (suc i) (suc j) x y a e f p = let rest = place-rises zs i j x y a.1 e f p in omega (arith, rest)
