-- A value that was read stands in byte order.
use Rattle.std.proofs.Common.{◌≡◌, ◌<◌, ◌≤◌, ℕ, arith, List, Option, Some, None, option_map, option_and_then, IfSome, true, false, if◌then◌else◌, Bool, subst}
use Rattle.std.specs.Str.{is_utf8}
use Rattle.json.specs.Lex.{tokens}
use Rattle.json.specs.Json as json
use Rattle.serde_json.specs.Data.{Data, number, array, object, item, Members, no_members, put, depth}
use Rattle.serde_json.specs.Read.{read, number_of, of_json, of_items, of_members, max_depth}
use Rattle.serde_json.proofs.Nesting.{depth-read}
use Rattle.json_forms.specs.Json.{json_of}
use Rattle.json_forms.specs.Order.{AreAscending, IsInByteOrder, AreInByteOrder, MembersAreInByteOrder}
use Rattle.json_forms.proofs.OrderLemmas.{AreAscending-put, MembersAreInByteOrder-put}

IfSome-map : {A B : Type 0} (P : A → Type 0) (Q : B → Type 0) (f : A → B) (o : Option A) → IfSome o P → ((a : A) → P a → Q (f a)) → IfSome (option_map f o) Q
IfSome-map P Q f None h k = tt
IfSome-map P Q f (Some a) h k = k a h

IfSome-and_then : {A B : Type 0} (P : A → Type 0) (Q : B → Type 0) (f : A → Option B) (o : Option A) → IfSome o P → ((a : A) → P a → IfSome (f a) Q) → IfSome (option_and_then f o) Q
IfSome-and_then P Q f None h k = tt
IfSome-and_then P Q f (Some a) h k = k a h

IfSome-always : {A : Type 0} (P : A → Type 0) (o : Option A) → ((a : A) → P a) → IfSome o P
IfSome-always P None k = tt
IfSome-always P (Some a) k = k a

abbrev IsMade : Members → Type 0
IsMade ms = AreAscending ms × MembersAreInByteOrder ms

mutual
  of_json-ordered : (j : json.Json) → IfSome (of_json j) IsInByteOrder
  of_json-ordered json.null = tt
  of_json-ordered (json.boolean b) = tt
  of_json-ordered (json.number s) = IfSome-map (λ n. Unit {0}) IsInByteOrder number (number_of s) (IfSome-always _ _ (λ n. tt)) (λ n h. tt)
  of_json-ordered (json.string s) = tt
  of_json-ordered (json.array js) = IfSome-map AreInByteOrder IsInByteOrder array (of_items js) (of_items-ordered js) (λ ds h. h)
  of_json-ordered (json.object ms) = IfSome-map IsMade IsInByteOrder object (of_members ms no_members) (of_members-ordered ms no_members (tt, tt)) (λ ns h. h)

  of_items-ordered : (js : json.Items) → IfSome (of_items js) AreInByteOrder
  of_items-ordered json.no_items = tt
  of_items-ordered (json.item j js) =
      IfSome-and_then IsInByteOrder AreInByteOrder (λ d. option_map (item d) (of_items js)) (of_json j) (of_json-ordered j)
      (λ d one. IfSome-map AreInByteOrder AreInByteOrder (item d) (of_items js) (of_items-ordered js) (λ ds h. (one, h)))

  of_members-ordered : (ms : json.Members) (found : Members) → IsMade found → IfSome (of_members ms found) IsMade
  of_members-ordered json.no_members found made = made
  of_members-ordered (json.member k j ms) found made =
      IfSome-and_then IsInByteOrder IsMade (λ d. of_members ms (put k d found)) (of_json j) (of_json-ordered j)
      (λ d one. of_members-ordered ms (put k d found) (AreAscending-put k d found made.0, MembersAreInByteOrder-put k d found one made.1))

read-ordered : (bytes : List ℕ) → IfSome (read bytes) IsInByteOrder
read-ordered bytes =
    IfSome-and_then (λ j. Unit {0}) IsInByteOrder of_json (option_and_then (λ p. json.if_last p.0 p.1) (json.value max_depth (tokens bytes))) (IfSome-always _ _ (λ j. tt)) (λ j h. of_json-ordered j)

under_test : (b : Bool) (o : Option Data) → IfSome o IsInByteOrder → IfSome (if b then o else None) IsInByteOrder
under_test true o h = h
under_test false o h = tt

pub json_of-ordered : (bytes : List ℕ) (d : Data) → json_of bytes ≡ Some d → IsInByteOrder d
json_of-ordered bytes d is = subst (λ o. IfSome o IsInByteOrder) is (under_test (is_utf8 bytes) (read bytes) (read-ordered bytes))

test_passed : (b : Bool) (o : Option Data) (d : Data) → (if b then o else None) ≡ Some d → o ≡ Some d
test_passed true o d is = is
test_passed false o d is = cc

pub json_of-nests : (bytes : List ℕ) (d : Data) → json_of bytes ≡ Some d → depth d < 128
json_of-nests bytes d is = let shallow : depth d ≤ max_depth = depth-read bytes d (test_passed (is_utf8 bytes) (read bytes) d is) in omega arith
