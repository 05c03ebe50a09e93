-- What is read of a schema file keeps the rules of schemas.
use Rattle.std.proofs.lemmas.Bool.{and_from}
use Rattle.std.specs.Prelude.{ℕ, ◌==◌, ◌&&◌, Bool, true, false, not, nat_lt, nat_le, List, [], ◌∷◌, codes, length, map, Option, Some, None, Ok, IfSome, option_map, option_and_then, ⊤, ◌<◌}
use Rattle.std.specs.Option.{ok_or, option_map_or}
use Rattle.std.specs.List.{position, list_all, AllZip, AllByRecursion}
use Rattle.std.specs.Str.{bytes_eq}
use Rattle.std.proofs.Common.{◌≡◌, refl, sym, ap, ◌∙◌, arith, subst}
use Rattle.std.proofs.lemmas.Bool.Decides.{nat_tests}
use Rattle.serde_json.specs.Data.{Data, Members, object}
use Rattle.serde_json.specs.Find.{get, as_object}
use Rattle.ident_rules.specs.Name.{is_name}
use Rattle.json_forms.specs.Json.{members_list, text_at}
use Rattle.json_forms.specs.Order.{IsInByteOrder, AreAscending}
use Rattle.json_forms.specs.Pointer.{◌//◌}
use Rattle.resource_schema.specs.declared.schema.Schema.{Schema}
use Rattle.resource_schema.specs.declared.kinds.Kind.{Kind}
use Rattle.resource_schema.specs.declared.kinds.Attribute.{Attribute}
use Rattle.resource_schema.specs.declared.kinds.Relationship.{Relationship}
use Rattle.resource_schema.specs.declared.values.Form.{Form}
use Rattle.resource_schema.specs.declared.values.AttrValue.{AttrValue}
use Rattle.resource_schema.specs.declared.faults.Why.TheVariants as why
use Rattle.resource_schema.specs.Forms.{has_form}
use Rattle.resource_schema.specs.SchemaRules.{is_schema, is_kind, is_attribute, is_relationship, is_one_of, are_rising, reserved_fields, reserved_kinds}
use Rattle.request_model.specs.Words.{all_ok}
use Rattle.request_model.specs.Results.{err_if}
use Rattle.request_model.specs.Values.{value_from, plain_value}
use Rattle.request_model.specs.SchemaFile.{form_of, many_of, fault, file_object, file_fields, flag_at, name_fault, default_at, attribute_from, relationship_from, attributes_at, relationships_at, kind_from, schema_of, NamesRise, FieldNamesRise, EachFieldNamesRise, SchemaNamesRise}
use Rattle.request_model.specs.ReadingLaws.{bind-Ok, then-Ok, map-Ok, err_if-Ok, negated, ok_or-Ok, and_then-Some, map-Some, some_if-Some, all_ok-zip}
use Rattle.request_model.proofs.Zips.{zip-length, zip-right, zip-same, all-always, all-list_all, position-found}
use Rattle.request_model.proofs.Ascents.{Ascends, name_of, members-ascend, test-from_ascends}
use Rattle.request_model.proofs.Ordered.{as_object-is, object-ordered, get-ordered}

-- ---- parts

-- a value that was read has the form
pub value_from-form : (f : Form) (nullable : Bool) (d : Data) (v : AttrValue) → value_from f nullable d ≡ Some v → has_form f nullable v ≡ true
value_from-form f nullable d v e =
    let a = and_then-Some _ (plain_value d) v e in
    let b = some_if-Some (has_form f nullable a.0) a.0 v a.2 in
    rw (sym b.1) b.0

-- a name that has no fault
pub name-parts : (reserved : List (List ℕ)) (place name : List ℕ) (t : ⊤) → name_fault reserved place name ≡ Ok t → (is_name name ≡ true) × (not (is_one_of reserved name) ≡ true)
name-parts reserved place name t e =
    let a = then-Ok (err_if (not (is_name name)) (fault place why.BadName)) (err_if (is_one_of reserved name) (fault place why.Reserved)) t e in
    (negated (is_name name) (err_if-Ok (not (is_name name)) _ a.0 a.1), ap not (err_if-Ok (is_one_of reserved name) _ t a.2))

if_some : {A : Type 0} (P : A → Type 0) (o : Option A) (x : A) → o ≡ Some x → IfSome o P → P x
if_some P None x e p = cc e
if_some P (Some y) x e p = let same : y ≡ x = cc e in subst P same p

-- the members of an object stand in byte order
pub object_at-ordered : (place : List ℕ) (o : Option Data) (l : List (List ℕ × Data)) → IfSome o NamesRise → file_object place o ≡ Ok l
    → Ascends (map name_of l) × ((d : Data) → o ≡ Some d → EachFieldNamesRise d → AllByRecursion (λ m. FieldNamesRise m.1) l)
object_at-ordered place None l order e = cc e
object_at-ordered place (Some d) l order e =
    let a = map-Some members_list (as_object d) l (ok_or-Ok (option_map members_list (as_object d)) (fault place why.NotObject) l e) in
    rw (sym a.2) (members-ascend a.0 (if_some AreAscending (as_object d) a.0 a.1 order), each a.0 a.1) where
      each : (ms : _) → as_object d ≡ Some ms → (c : Data) → Some d ≡ Some c → EachFieldNamesRise c → AllByRecursion (λ m. FieldNamesRise m.1) (members_list ms)
      each ms there c same rise = let object : as_object c ≡ Some ms = cc (same, there) in if_some (λ ns. AllByRecursion (λ m. FieldNamesRise m.1) (members_list ns)) (as_object c) ms object rise

few : (limit n : ℕ) → nat_lt limit n ≡ false → nat_le n limit ≡ true
few limit n e = grind (arith, nat_tests, e)

-- so do fields, which are few
fields_at-ordered : (place : List ℕ) (limit : ℕ) (o : Option Data) (l : List (List ℕ × Data)) → IfSome o NamesRise → file_fields place limit o ≡ Ok l
    → Ascends (map name_of l) × (nat_le (length l) limit ≡ true)
fields_at-ordered place limit None l order e = let same : l ≡ [] = cc e in rw same (tt, none_is_few limit) where
  none_is_few : (limit : ℕ) → nat_le 0 limit ≡ true
  none_is_few limit = grind (arith, nat_tests)
fields_at-ordered place limit (Some d) l order e =
    let a = bind-Ok (file_object place (Some d)) _ l e in
    let b = then-Ok (err_if (nat_lt limit (length a.0)) (fault place why.Limit)) (Ok a.0) l a.2 in
    let same : a.0 ≡ l = cc b.2 in
    let kept = object_at-ordered place (Some d) a.0 order a.1 in
    rw (sym same) (kept.0, few limit (length a.0) (err_if-Ok (nat_lt limit (length a.0)) _ b.0 b.1))

-- ---- attributes

default_at-form : (place : List ℕ) (f : Form) (nullable : Bool) (o : Option Data) (default : Option AttrValue) → default_at place f nullable o ≡ Ok default → option_map_or (has_form f nullable) default true ≡ true
default_at-form place f nullable None default e = let same : default ≡ None = cc e in rw same refl
default_at-form place f nullable (Some d) default e =
    let a = map-Ok Some (ok_or (value_from f nullable d) (fault place why.BadDefault)) default e in
    rw (sym a.2) (value_from-form f nullable d a.0 (ok_or-Ok (value_from f nullable d) _ a.0 a.1))

attribute_from-keeps : (group : List ℕ) (m : List ℕ × Data) (a : Attribute) → attribute_from group m ≡ Ok a → (a.name ≡ m.0) × (is_attribute a ≡ true)
attribute_from-keeps group m a e =
    let p = then-Ok (name_fault reserved_fields (group // m.0) m.0) _ a e in
    let q = then-Ok (file_object (group // m.0) (Some m.1)) _ a p.2 in
    let r = bind-Ok (ok_or (option_and_then form_of (text_at (codes "type") m.1)) (fault (group // m.0 // codes "type") why.BadType)) _ a q.2 in
    let s = bind-Ok (flag_at (group // m.0 // codes "nullable") (get (codes "nullable") m.1)) _ a r.2 in
    let t = bind-Ok (default_at (group // m.0 // codes "default") r.0 s.0 (get (codes "default") m.1)) _ a s.2 in
    let named = name-parts reserved_fields (group // m.0) m.0 p.0 p.1 in
    let same : record { name = m.0; form = r.0; nullable = s.0; default = t.0 } ≡ a = cc t.2 in
    subst (λ (a : Attribute). (a.name ≡ m.0) × (is_attribute a ≡ true)) same (refl, and_from _ _ (and_from _ _ named.0 named.1) (default_at-form (group // m.0 // codes "default") r.0 s.0 (get (codes "default") m.1) t.0 t.1))

-- ---- relationships

relationship_from-keeps : (kinds attributes : List (List ℕ)) (group : List ℕ) (m : List ℕ × Data) (r : Relationship) → relationship_from kinds attributes group m ≡ Ok r
    → (r.name ≡ m.0) × (is_relationship (length kinds) attributes r ≡ true)
relationship_from-keeps kinds attributes group m r e =
    let p = then-Ok (name_fault reserved_fields (group // m.0) m.0) _ r e in
    let q = then-Ok (err_if (is_one_of attributes m.0) (fault (group // m.0) why.Shared)) _ r p.2 in
    let o = then-Ok (file_object (group // m.0) (Some m.1)) _ r q.2 in
    let s = bind-Ok (ok_or (option_and_then many_of (text_at (codes "kind") m.1)) (fault (group // m.0 // codes "kind") why.BadKind)) _ r o.2 in
    let t = bind-Ok (ok_or (option_and_then (λ t. position (bytes_eq t) kinds) (text_at (codes "target") m.1)) (fault (group // m.0 // codes "target") why.BadTarget)) _ r s.2 in
    let named = name-parts reserved_fields (group // m.0) m.0 p.0 p.1 in
    let free = ap not (err_if-Ok (is_one_of attributes m.0) _ q.0 q.1) in
    let place = and_then-Some (λ t. position (bytes_eq t) kinds) (text_at (codes "target") m.1) t.0 (ok_or-Ok _ _ t.0 t.1) in
    let within = (position-found (bytes_eq place.0) kinds t.0 place.2).3 in
    let same : record { name = m.0; many = s.0; target = t.0 } ≡ r = cc t.2 in
    subst (λ (r : Relationship). (r.name ≡ m.0) × (is_relationship (length kinds) attributes r ≡ true)) same (refl, and_from _ _ (and_from _ _ (and_from _ _ named.0 named.1) free) (below t.0 (length kinds) within)) where
      below : (n k : ℕ) → n < k → nat_lt n k ≡ true
      below n k l = grind (arith, nat_tests, l)

-- ---- types

-- attributes that were read, of members in order
attributes-keep : (group : List ℕ) (ms : List (List ℕ × Data)) (xs : List Attribute) → Ascends (map name_of ms) → all_ok (map (attribute_from group) ms) ≡ Ok xs
    → (length xs ≡ length ms) × (are_rising (map (λ a. a.name) xs) ≡ true) × (list_all is_attribute xs ≡ true)
attributes-keep group ms xs ascend e =
    let z = all_ok-zip (attribute_from group) ms xs e in
    let names : map (λ (a : Attribute). a.name) xs ≡ map name_of ms = zip-same _ name_of (λ a. a.name) ms xs (λ m a q. (attribute_from-keeps group m a q).0) z in (
      zip-length _ ms xs z,
      rw names (test-from_ascends _ ascend),
      all-list_all is_attribute xs (zip-right (λ m. ⊤) _ (λ a. is_attribute a ≡ true) ms xs (λ m a t q. (attribute_from-keeps group m a q).1) (all-always (λ m. ⊤) ms (λ m. tt)) z),
    )

relationships-keep : (kinds attributes : List (List ℕ)) (group : List ℕ) (ms : List (List ℕ × Data)) (xs : List Relationship) → Ascends (map name_of ms) → all_ok (map (relationship_from kinds attributes group) ms) ≡ Ok xs
    → (length xs ≡ length ms) × (are_rising (map (λ r. r.name) xs) ≡ true) × (list_all (is_relationship (length kinds) attributes) xs ≡ true)
relationships-keep kinds attributes group ms xs ascend e =
    let z = all_ok-zip (relationship_from kinds attributes group) ms xs e in
    let names : map (λ (r : Relationship). r.name) xs ≡ map name_of ms = zip-same _ name_of (λ r. r.name) ms xs (λ m r q. (relationship_from-keeps kinds attributes group m r q).0) z in (
      zip-length _ ms xs z,
      rw names (test-from_ascends _ ascend),
      all-list_all (is_relationship (length kinds) attributes) xs (zip-right (λ m. ⊤) _ (λ r. is_relationship (length kinds) attributes r ≡ true) ms xs (λ m r t q. (relationship_from-keeps kinds attributes group m r q).1) (all-always (λ m. ⊤) ms (λ m. tt)) z),
    )

kind_from-keeps : (kinds : List (List ℕ)) (m : List ℕ × Data) (k : Kind) → FieldNamesRise m.1 → kind_from kinds m ≡ Ok k → (k.name ≡ m.0) × (is_kind (length kinds) k ≡ true)
kind_from-keeps kinds m k order e =
    let at = codes "/types" // m.0 in
    let p = then-Ok (name_fault reserved_kinds (codes "/types" // m.0) m.0) _ k e in
    let q = then-Ok (file_object (codes "/types" // m.0) (Some m.1)) _ k p.2 in
    let r = bind-Ok (flag_at (codes "/types" // m.0 // codes "client-ids") (get (codes "client-ids") m.1)) _ k q.2 in
    let t = bind-Ok (attributes_at (codes "/types" // m.0) m.1) _ k r.2 in
    let v = bind-Ok (relationships_at kinds (map (λ a. a.name) t.0) (codes "/types" // m.0) m.1) _ k t.2 in
    let s = bind-Ok (file_fields (codes "/types" // m.0 // codes "attributes") 64 (get (codes "attributes") m.1)) _ t.0 t.1 in
    let u = bind-Ok (file_fields (codes "/types" // m.0 // codes "relationships") 32 (get (codes "relationships") m.1)) _ v.0 v.1 in
    let named = name-parts reserved_kinds (codes "/types" // m.0) m.0 p.0 p.1 in
    let own = fields_at-ordered _ 64 (get (codes "attributes") m.1) s.0 order.0 s.1 in
    let linked = fields_at-ordered _ 32 (get (codes "relationships") m.1) u.0 order.1 u.1 in
    let attributes = attributes-keep (codes "/types" // m.0 // codes "attributes") s.0 t.0 own.0 s.2 in
    let relationships = relationships-keep kinds (map (λ a. a.name) t.0) (codes "/types" // m.0 // codes "relationships") u.0 v.0 linked.0 u.2 in
    let same : record { name = m.0; client_ids = r.0; attributes = t.0; relationships = v.0 } ≡ k = cc v.2 in
    let few_attributes : nat_le (length t.0) 64 ≡ true = rw attributes.0 own.1 in
    let few_relationships : nat_le (length v.0) 32 ≡ true = rw relationships.0 linked.1 in
    subst (λ (k : Kind). (k.name ≡ m.0) × (is_kind (length kinds) k ≡ true)) same (refl, and_from _ _ (and_from _ _ (and_from _ _ (and_from _ _ (and_from _ _ (and_from _ _ (and_from _ _ named.0 named.1) few_attributes) few_relationships) attributes.1) relationships.1) attributes.2) relationships.2)

-- ---- the schema

some_types : (n : ℕ) → (n == 0) ≡ false → nat_lt 0 n ≡ true
some_types n e = grind (arith, nat_tests, e)

kinds-keep : (ms : List (List ℕ × Data)) (schema : Schema) → Ascends (map name_of ms) → AllByRecursion (λ m. FieldNamesRise m.1) ms → (length ms == 0) ≡ false → nat_lt 64 (length ms) ≡ false
    → all_ok (map (kind_from (map (λ t. t.0) ms)) ms) ≡ Ok schema → is_schema schema ≡ true
kinds-keep ms schema ascend order some limit e =
    let z = all_ok-zip (kind_from (map (λ t. t.0) ms)) ms schema e in
    let long : length schema ≡ length ms = zip-length _ ms schema z in
    let names : map (λ (k : Kind). k.name) schema ≡ map name_of ms = zip-names ms schema order z in
    let count : length (map name_of ms) ≡ length schema = length-same ms ∙ sym long in
    let each : AllByRecursion (λ k. is_kind (length (map name_of ms)) k ≡ true) schema =
    zip-right (λ m. FieldNamesRise m.1) _ (λ k. is_kind (length (map name_of ms)) k ≡ true) ms schema (λ m k o q. (kind_from-keeps (map name_of ms) m k o q).1) order z in
    let some_kind : nat_lt 0 (length schema) ≡ true = rw long (some_types (length ms) some) in
    let few_kinds : nat_le (length schema) 64 ≡ true = rw long (few 64 (length ms) limit) in
    let rising : are_rising (map (λ (k : Kind). k.name) schema) ≡ true = rw names (test-from_ascends (map name_of ms) ascend) in
    let all : AllByRecursion (λ k. is_kind (length schema) k ≡ true) schema = rw (sym count) each in
    and_from _ _ (and_from _ _ (and_from _ _ some_kind few_kinds) rising) (all-list_all (is_kind (length schema)) schema all) where
      length-same : {X : Type 0} (xs : List (List ℕ × X)) → length (map (λ x. x.0) xs) ≡ length xs
      length-same [] = refl
      length-same (x ∷ xs) = let rest = length-same xs in omega (arith, rest)

      zip-names : (ns : List (List ℕ × Data)) (schema : Schema) → AllByRecursion (λ m. FieldNamesRise m.1) ns → AllZip (λ m k. kind_from (map (λ t. t.0) ms) m ≡ Ok k) ns schema → map (λ (k : Kind). k.name) schema ≡ map name_of ns
      zip-names [] [] o z = refl
      zip-names [] (k ∷ ks) o z = absurd z
      zip-names (m ∷ ns) [] o z = absurd z
      zip-names (m ∷ ns) (k ∷ ks) o z = let rest = zip-names ns ks o.1 z.1 in let first = (kind_from-keeps (map (λ t. t.0) ms) m k o.0 z.0).0 in cc (first, rest)

types-rise : (o : Option Data) → IfSome o (λ types. NamesRise types × EachFieldNamesRise types) → IfSome o NamesRise
types-rise None rise = tt
types-rise (Some types) rise = rise.0

-- a schema that was read keeps the rules
pub schema_of-is_schema : (d : Data) (schema : Schema) → schema_of d ≡ Ok schema → SchemaNamesRise d → is_schema schema ≡ true
schema_of-is_schema d schema e order =
    let p = then-Ok (file_object (codes "/") (Some d)) _ schema e in
    let q = bind-Ok (file_object (codes "/types") (get (codes "types") d)) _ schema p.2 in
    let r = then-Ok (err_if (length q.0 == 0) (fault (codes "/types") why.Empty)) _ schema q.2 in
    let s = then-Ok (err_if (nat_lt 64 (length q.0)) (fault (codes "/types") why.Limit)) _ schema r.2 in
    let kept = object_at-ordered (codes "/types") (get (codes "types") d) q.0 (types-rise (get (codes "types") d) order) q.1 in
    kinds-keep q.0 schema kept.0 (each (get (codes "types") d) q.0 order q.1 kept.1) (err_if-Ok _ _ r.0 r.1) (err_if-Ok _ _ s.0 s.1) s.2 where
      each : (o : Option Data) (l : List (List ℕ × Data)) → IfSome o (λ types. NamesRise types × EachFieldNamesRise types) → file_object (codes "/types") o ≡ Ok l
          → ((d : Data) → o ≡ Some d → EachFieldNamesRise d → AllByRecursion (λ m. FieldNamesRise m.1) l) → AllByRecursion (λ m. FieldNamesRise m.1) l
      each None l order e f = cc e
      each (Some types) l order e f = f types refl order.1

-- ---- values that were read

names-rise : (o : Option Data) → IfSome o IsInByteOrder → IfSome o NamesRise
names-rise None order = tt
names-rise (Some d) order = rises (as_object d) refl where
  rises : (o : Option Members) → as_object d ≡ o → IfSome o AreAscending
  rises None e = tt
  rises (Some ms) e = (let whole : IsInByteOrder (object ms) = subst IsInByteOrder (as_object-is d ms e) order in whole.0)

fields-rise : (d : Data) → IsInByteOrder d → FieldNamesRise d
fields-rise d order = (names-rise _ (get-ordered (codes "attributes") d order), names-rise _ (get-ordered (codes "relationships") d order))

all-fields-rise : (ms : List (List ℕ × Data)) → AllByRecursion (λ m. IsInByteOrder m.1) ms → AllByRecursion (λ m. FieldNamesRise m.1) ms
all-fields-rise [] order = tt
all-fields-rise (m ∷ ms) order = (fields-rise m.1 order.0, all-fields-rise ms order.1)

each-rise : (d : Data) → IsInByteOrder d → EachFieldNamesRise d
each-rise d order = rises (as_object d) refl where
  rises : (o : Option Members) → as_object d ≡ o → IfSome o (λ ms. AllByRecursion (λ m. FieldNamesRise m.1) (members_list ms))
  rises None e = tt
  rises (Some ms) e = all-fields-rise (members_list ms) (object-ordered d ms order e).1

-- the names of a value in byte order rise
pub ordered-rises : (d : Data) → IsInByteOrder d → SchemaNamesRise d
ordered-rises d order = rises (get (codes "types") d) (get-ordered (codes "types") d order) where
  rises : (o : Option Data) → IfSome o IsInByteOrder → IfSome o (λ types. NamesRise types × EachFieldNamesRise types)
  rises None o = tt
  rises (Some types) o = (names-rise (Some types) o, each-rise types o)
