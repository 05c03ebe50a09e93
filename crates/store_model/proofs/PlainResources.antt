-- Resource objects and linkage are plain JSON, whose members stand in byte order.
use Rattle.std.proofs.lemmas.Bool.{and_parts}
use Rattle.std.proofs.Common.{◌≡◌, ℕ, ◌<◌, ◌^◌, List, [], ◌∷◌, ◌++◌, Bool, true, false, length, refl, sym, subst, Some, None, zero, suc, arith}
use Rattle.std.specs.Prelude.{ℤ, pos, negsuc, IsTrue, IfSome, map, cond, codes, slice_get}
use Rattle.std.specs.Option.{option_map_or}
use Rattle.std.specs.Ordering.{is_lt}
use Rattle.std.specs.declared.cmp.Ordering.{Ordering}
use Rattle.std.specs.declared.cmp.Ordering.TheVariants.{Less, Equal, Greater}
use Rattle.std.specs.Cmp.Lexicographic.{nat_list_cmp_total}
use Rattle.std.specs.List.{AllByRecursion, AllZip, list_all, filter, zip}
use Rattle.std.proofs.lemmas.Bool.Decides.{nat_tests}
use Rattle.serde_json.specs.Data.{Data, string}
use Rattle.serde_json.specs.View.{items_of}
use Rattle.json_forms.specs.Order.{IsBefore, AreBehind, AreAscending}
use Rattle.json_forms.specs.Plain.{IsPlain, ArePlain, MembersArePlain}
use Rattle.ident_rules.specs.declared.key.Key.{Key}
use Rattle.resource_schema.specs.declared.schema.Schema.{Schema}
use Rattle.resource_schema.specs.declared.kinds.Kind.{Kind}
use Rattle.resource_schema.specs.declared.kinds.Attribute.{Attribute}
use Rattle.resource_schema.specs.declared.kinds.Relationship.{Relationship}
use Rattle.resource_schema.specs.declared.values.Form.{Form}
use Rattle.resource_schema.specs.declared.values.Form.TheVariants as form
use Rattle.resource_schema.specs.declared.values.AttrValue.{AttrValue}
use Rattle.resource_schema.specs.declared.values.AttrValue.TheVariants as value
use Rattle.resource_schema.specs.Forms.{is_i64, is_of, HasForm}
use Rattle.resource_schema.specs.Kinds.{attributes_of, relationships_of, kind_name}
use Rattle.resource_schema.specs.SchemaRules.{are_rising, is_kind, is_schema}
use Rattle.world_cells.specs.declared.rows.Row.{Row}
use Rattle.world_cells.specs.declared.rows.Link.{Link}
use Rattle.world_cells.specs.declared.rows.Link.TheVariants.{One, Many}
use Rattle.world_cells.specs.World.{World}
use Rattle.store_model.specs.Valid.{IsLinkOf, IsValidRow}
use Rattle.request_model.specs.Values.{integer, value_data}
use Rattle.store_model.specs.Resource.{members_of, object_of, member_unless_empty, identifier, linkage, resource_path, relationship_object, is_shown, attribute_members, relationship_members, resource, Fields}
use Rattle.store_model.specs.Laws.{Pairwise}
use Rattle.store_model.proofs.Basics.{all_in, in_all}

-- ---- values

int_plain : (z : ℤ) → is_i64 z ≡ true → IsPlain (integer z)
int_plain (pos n) e = let small : n < 2 ^ 63 = grind (arith, nat_tests, e) in omega arith
int_plain (negsuc n) e = let small : n < 2 ^ 63 = grind (arith, nat_tests, e) in omega arith

of_form : (f : Form) (z : ℤ) → is_of f (value.Int z) ≡ true → is_i64 z ≡ true
of_form form.Int z e = e
of_form form.Text z e = cc
of_form form.Bool z e = cc

pub value_plain : (a : Attribute) (v : AttrValue) → HasForm a v → IsPlain (value_data v)
value_plain a value.Null h = tt
value_plain a (value.Int z) h = int_plain z (of_form a.form z h)
value_plain a (value.Text t) h = tt
value_plain a (value.Bool b) h = tt

-- ---- names that rise

less : (o : Ordering) → is_lt o ≡ true → o ≡ Less
less Less e = refl
less Equal e = cc
less Greater e = cc

module _ {A : Type 0} (name : A → List ℕ) where
  abbrev Precedes : A → A → Type 0
  Precedes a b = IsBefore (name a) (name b)

  rising_behind : (x : A) (xs : List A) → are_rising (name x ∷ map name xs) ≡ true → AllByRecursion (Precedes x) xs
  rising_behind x [] e = tt
  rising_behind x (y ∷ xs) e =
      let parts = and_parts _ _ e in
      let first : IsBefore (name x) (name y) = less _ parts.0 in
      (first, all_in (Precedes x) xs (λ z among. nat_list_cmp_total.trans (name x) (name y) (name z) first (in_all (Precedes y) xs z (rising_behind y xs parts.1) among)))

  pub rising_pairs : (xs : List A) → are_rising (map name xs) ≡ true → Pairwise Precedes xs
  rising_pairs [] e = tt
  rising_pairs (x ∷ []) e = (tt, tt)
  rising_pairs (x ∷ y ∷ xs) e = (rising_behind x (y ∷ xs) e, rising_pairs (y ∷ xs) (and_parts _ _ e).1)

  -- members of what stands side by side, some of them
  module _ {B : Type 0} (f : A × B → Data) (p : A × B → Bool) where
    abbrev some_members : List A → List B → List (List ℕ × Data)
    some_members xs ys = map (λ e. (name e.0, f e)) (filter p (zip xs ys))

    some_behind : (x : A) (xs : List A) (ys : List B) → AllByRecursion (Precedes x) xs → AreBehind (name x) (members_of (some_members xs ys))
    some_behind x [] ys h = tt
    some_behind x (a ∷ xs) [] h = tt
    some_behind x (a ∷ xs) (b ∷ ys) h =
        let rest = some_behind x xs ys h.1 in
        elim (p (a, b)) as (λ t. AreBehind (name x) (members_of (map (λ e. (name e.0, f e)) (cond t ((a, b) ∷ filter p (zip xs ys)) (filter p (zip xs ys)))))) [ true ↦ (h.0, rest) | false ↦ rest ]

    pub some_ascend : (xs : List A) (ys : List B) → Pairwise Precedes xs → AreAscending (members_of (some_members xs ys))
    some_ascend [] ys h = tt
    some_ascend (a ∷ xs) [] h = tt
    some_ascend (a ∷ xs) (b ∷ ys) h =
        let rest = some_ascend xs ys h.1 in
        elim (p (a, b)) as (λ t. AreAscending (members_of (map (λ e. (name e.0, f e)) (cond t ((a, b) ∷ filter p (zip xs ys)) (filter p (zip xs ys)))))) [ true ↦ (some_behind a xs ys h.0, rest) | false ↦ rest ]

    pub some_plain : (P : A → B → Type 0) → ((a : A) (b : B) → P a b → IsPlain (f (a, b))) → (xs : List A) (ys : List B) → AllZip P xs ys → MembersArePlain (members_of (some_members xs ys))
    some_plain P each [] [] h = tt
    some_plain P each [] (b ∷ ys) h = absurd h
    some_plain P each (a ∷ xs) [] h = absurd h
    some_plain P each (a ∷ xs) (b ∷ ys) h =
        let rest = some_plain P each xs ys h.1 in
        elim (p (a, b)) as (λ t. MembersArePlain (members_of (map (λ e. (name e.0, f e)) (cond t ((a, b) ∷ filter p (zip xs ys)) (filter p (zip xs ys)))))) [ true ↦ (each a b h.0, rest) | false ↦ rest ]

-- ---- arrays

pub items_plain : {A : Type 0} (f : A → Data) (xs : List A) → AllByRecursion (λ x. IsPlain (f x)) xs → ArePlain (items_of (map f xs))
items_plain f [] h = tt
items_plain f (x ∷ xs) h = (h.0, items_plain f xs h.1)

-- ---- linkage

identifier_plain : (schema : Schema) (key : Key) → IsPlain (identifier schema key)
identifier_plain schema key = (((refl, tt), (tt, tt)), (tt, (tt, tt)))

pub linkage_plain : (schema : Schema) (kind : ℕ) (link : Link) → IsPlain (linkage schema kind link)
linkage_plain schema kind (One None) = tt
linkage_plain schema kind (One (Some x)) = identifier_plain schema (record { kind = kind; id = x })
linkage_plain schema kind (Many xs) = items_plain (λ x. identifier schema (record { kind = kind; id = x })) xs (all_in _ xs (λ x among. identifier_plain schema (record { kind = kind; id = x })))

relationship_plain : (schema : Schema) (key : Key) (r : Relationship) (link : Link) → IsPlain (relationship_object schema key r link)
relationship_plain schema key r link = (((refl, tt), (tt, tt)), (linkage_plain schema r.target link, ((((refl, tt), (tt, tt)), (tt, (tt, tt))), tt)))

-- ---- what a schema says of a type

kind_rules : (n : ℕ) (kinds : List Kind) (kind : ℕ) → list_all (is_kind n) kinds ≡ true → IfSome (slice_get kinds kind) (λ k. is_kind n k ≡ true)
kind_rules n [] kind e = tt
kind_rules n (k ∷ kinds) zero e = (and_parts _ _ e).0
kind_rules n (k ∷ kinds) (suc kind) e = kind_rules n kinds kind (and_parts _ _ e).1

attributes_rise : (n : ℕ) (k : Kind) → is_kind n k ≡ true → are_rising (map (λ a. a.name) k.attributes) ≡ true
attributes_rise n k e = (and_parts _ _ (and_parts _ _ (and_parts _ _ (and_parts _ _ e).0).0).0).1

relationships_rise : (n : ℕ) (k : Kind) → is_kind n k ≡ true → are_rising (map (λ r. r.name) k.relationships) ≡ true
relationships_rise n k e = (and_parts _ _ (and_parts _ _ (and_parts _ _ e).0).0).1

module _ (schema : Schema) (rules : IsTrue (is_schema schema)) where
  all_kinds : list_all (is_kind (length schema)) schema ≡ true
  all_kinds = (and_parts _ _ rules).1

  attributes_rising : (kind : ℕ) → are_rising (map (λ a. a.name) (attributes_of schema kind)) ≡ true
  attributes_rising kind = elim (slice_get schema kind) as (λ o. IfSome o (λ k. is_kind (length schema) k ≡ true) → are_rising (map (λ a. a.name) (option_map_or (λ k. k.attributes) o [])) ≡ true) [
    | None ↦ λ h. refl
    | Some k ↦ λ h. attributes_rise (length schema) k h
  ] (kind_rules (length schema) schema kind all_kinds)

  relationships_rising : (kind : ℕ) → are_rising (map (λ r. r.name) (relationships_of schema kind)) ≡ true
  relationships_rising kind = elim (slice_get schema kind) as (λ o. IfSome o (λ k. is_kind (length schema) k ≡ true) → are_rising (map (λ r. r.name) (option_map_or (λ k. k.relationships) o [])) ≡ true) [
    | None ↦ λ h. refl
    | Some k ↦ λ h. relationships_rise (length schema) k h
  ] (kind_rules (length schema) schema kind all_kinds)

  -- ---- resource objects

  -- attributes, id, links, relationships and type, where the first and the fourth may be absent
  object_plain : (shown related : List (List ℕ × Data)) (id path type : List ℕ) → AreAscending (members_of shown) → MembersArePlain (members_of shown) → AreAscending (members_of related) → MembersArePlain (members_of related)
      → IsPlain (object_of (member_unless_empty (codes "attributes") shown ++ (codes "id", string id) ∷ (codes "links", object_of ((codes "self", string path) ∷ [])) ∷ (member_unless_empty (codes "relationships") related ++ (codes "type", string type) ∷ [])))
  object_plain [] [] id path type a p b q = (((refl, (refl, tt)), ((refl, tt), (tt, tt))), (tt, (((tt, tt), (tt, tt)), (tt, tt))))
  object_plain [] (r ∷ related) id path type a p b q = (((refl, (refl, (refl, tt))), ((refl, (refl, tt)), ((refl, tt), (tt, tt)))), (tt, (((tt, tt), (tt, tt)), ((b, q), (tt, tt)))))
  object_plain (x ∷ shown) [] id path type a p b q = (((refl, (refl, (refl, tt))), ((refl, (refl, tt)), ((refl, tt), (tt, tt)))), ((a, p), (tt, (((tt, tt), (tt, tt)), (tt, tt)))))
  object_plain (x ∷ shown) (r ∷ related) id path type a p b q = (((refl, (refl, (refl, (refl, tt)))), ((refl, (refl, (refl, tt))), ((refl, (refl, tt)), ((refl, tt), (tt, tt))))), ((a, p), (tt, (((tt, tt), (tt, tt)), ((b, q), (tt, tt))))))

  pub resource_plain : (w : World) (k : Key) (row : Row) (fields : Fields) → IsValidRow schema w k row → IsPlain (resource schema row fields)
  resource_plain w k row fields valid =
      let kind = row.key.kind in
      let values : AllZip HasForm (attributes_of schema row.key.kind) row.values = subst (λ (key : Key). AllZip HasForm (attributes_of schema key.kind) row.values) (sym valid.own_key) valid.values in
      let links : AllZip IsLinkOf (relationships_of schema row.key.kind) row.links = subst (λ (key : Key). AllZip IsLinkOf (relationships_of schema key.kind) row.links) (sym valid.own_key) valid.links in
      object_plain (attribute_members schema row fields) (relationship_members schema row fields) row.key.id (resource_path schema row.key) (kind_name schema row.key.kind)
      (some_ascend (λ (a : Attribute). a.name) (λ e. value_data e.1) (λ e. is_shown fields row.key.kind e.0.name) (attributes_of schema row.key.kind) row.values (rising_pairs (λ (a : Attribute). a.name) (attributes_of schema row.key.kind) (attributes_rising row.key.kind)))
      (some_plain (λ (a : Attribute). a.name) (λ e. value_data e.1) (λ e. is_shown fields row.key.kind e.0.name) HasForm value_plain (attributes_of schema row.key.kind) row.values values)
      (some_ascend (λ (r : Relationship). r.name) (λ e. relationship_object schema row.key e.0 e.1) (λ e. is_shown fields row.key.kind e.0.name) (relationships_of schema row.key.kind) row.links (rising_pairs (λ (r : Relationship). r.name) (relationships_of schema row.key.kind) (relationships_rising row.key.kind)))
      (some_plain (λ (r : Relationship). r.name) (λ e. relationship_object schema row.key e.0 e.1) (λ e. is_shown fields row.key.kind e.0.name) IsLinkOf (λ r link h. relationship_plain schema row.key r link) (relationships_of schema row.key.kind) row.links links)
