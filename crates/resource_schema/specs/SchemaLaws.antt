-- What the rules of schemas give: few types and fields, and each type by its rules.
use Rattle.std.proofs.Common.{◌≡◌, ℕ, ◌<◌, ◌≤◌, true, List, [], ◌∷◌, length, Some, None, IsTrue, refl, suc, zero, arith, subst}
use Rattle.std.specs.Prelude.{slice_get, Bool, not, map}
use Rattle.std.specs.Option.{option_map_or}
use Rattle.std.specs.List.{list_all}
use Rattle.std.proofs.lemmas.Bool.{and_parts}
use borrow.Author.Tests.{ltb-true, leb-true}
use Rattle.ident_rules.specs.Name.{is_name}
use Rattle.resource_schema.specs.declared.kinds.TheConstants.{KIND_LIMIT, ATTRIBUTE_LIMIT, RELATIONSHIP_LIMIT}
use Rattle.resource_schema.specs.declared.kinds.Kind.{Kind}
use Rattle.resource_schema.specs.declared.kinds.Relationship.{Relationship}
use Rattle.resource_schema.specs.Kinds.{attributes_of, relationships_of, target_of}
use Rattle.resource_schema.specs.SchemaRules.{is_schema, is_kind, is_attribute, is_relationship, are_rising, is_one_of, reserved_kinds}

-- what passes for all passes for each
pub passes_at : {X : Type 0} (p : X → Bool) (xs : List X) (i : ℕ) (x : X) → list_all p xs ≡ true → slice_get xs i ≡ Some x → p x ≡ true
passes_at p [] i x all e = cc e
passes_at p (y ∷ ys) zero x all e = let same : y ≡ x = cc e in subst (λ z. p z ≡ true) same (and_parts _ _ all).0
passes_at p (y ∷ ys) (suc i) x all e = passes_at p ys i x (and_parts _ _ all).1 e

-- the parts of the rule of schemas
pub record SchemaParts (schema : List Kind) : Type 0 where
  pub some : 0 < length schema
  pub few : length schema ≤ KIND_LIMIT
  pub rising : are_rising (map (λ k. k.name) schema) ≡ true
  pub kinds : list_all (is_kind (length schema)) schema ≡ true

pub schema_parts : (schema : List Kind) → IsTrue (is_schema schema) → SchemaParts schema
schema_parts schema rules =
    let last = and_parts _ _ rules in
    let next = and_parts _ _ last.0 in
    let first = and_parts _ _ next.0 in
    record { some = ltb-true _ _ first.0; few = leb-true _ _ first.1; rising = next.1; kinds = last.1 }

-- the parts of the rule of types
pub record KindParts (kinds : ℕ) (k : Kind) : Type 0 where
  pub name : is_name k.name ≡ true
  pub free : not (is_one_of reserved_kinds k.name) ≡ true
  pub few_attributes : length k.attributes ≤ ATTRIBUTE_LIMIT
  pub few_relationships : length k.relationships ≤ RELATIONSHIP_LIMIT
  pub rising_attributes : are_rising (map (λ a. a.name) k.attributes) ≡ true
  pub rising_relationships : are_rising (map (λ r. r.name) k.relationships) ≡ true
  pub attributes : list_all is_attribute k.attributes ≡ true
  pub relationships : list_all (is_relationship kinds (map (λ a. a.name) k.attributes)) k.relationships ≡ true

pub kind_parts : (kinds : ℕ) (k : Kind) → is_kind kinds k ≡ true → KindParts kinds k
kind_parts kinds k rules =
    let a = and_parts _ _ rules in
    let b = and_parts _ _ a.0 in
    let c = and_parts _ _ b.0 in
    let d = and_parts _ _ c.0 in
    let e = and_parts _ _ d.0 in
    let f = and_parts _ _ e.0 in
    let g = and_parts _ _ f.0 in
    record {
      name = g.0;
      free = g.1;
      few_attributes = leb-true _ _ f.1;
      few_relationships = leb-true _ _ e.1;
      rising_attributes = d.1;
      rising_relationships = c.1;
      attributes = b.1;
      relationships = a.1;
    }

-- each type keeps the rule of types
pub kind_at-parts : (schema : List Kind) (kind : ℕ) (k : Kind) → IsTrue (is_schema schema) → slice_get schema kind ≡ Some k → KindParts (length schema) k
kind_at-parts schema kind k rules e =
    kind_parts (length schema) k (passes_at (is_kind (length schema)) schema kind k (schema_parts schema rules).kinds e)

-- few attributes of a type, by its number
pub length-attributes_of-le : (schema : List Kind) (kind : ℕ) → IsTrue (is_schema schema) → length (attributes_of schema kind) ≤ ATTRIBUTE_LIMIT
length-attributes_of-le schema kind rules = by_look (slice_get schema kind) refl where
  by_look : (o : _) → slice_get schema kind ≡ o → length (option_map_or (λ (k : Kind). k.attributes) o []) ≤ ATTRIBUTE_LIMIT
  by_look None e = omega arith
  by_look (Some k) e = (kind_at-parts schema kind k rules e).few_attributes

-- few relationships of a type, by its number
pub length-relationships_of-le : (schema : List Kind) (kind : ℕ) → IsTrue (is_schema schema) → length (relationships_of schema kind) ≤ RELATIONSHIP_LIMIT
length-relationships_of-le schema kind rules = by_look (slice_get schema kind) refl where
  by_look : (o : _) → slice_get schema kind ≡ o → length (option_map_or (λ (k : Kind). k.relationships) o []) ≤ RELATIONSHIP_LIMIT
  by_look None e = omega arith
  by_look (Some k) e = (kind_at-parts schema kind k rules e).few_relationships

-- a relationship leads to a type of the schema
pub target_of-lt : (schema : List Kind) (kind rel : ℕ) → IsTrue (is_schema schema) → target_of schema kind rel < length schema
target_of-lt schema kind rel rules = by_look (slice_get schema kind) refl where
  by_rel : (k : Kind) (o : _) → slice_get schema kind ≡ Some k → slice_get k.relationships rel ≡ o → option_map_or (λ (r : Relationship). r.target) o 0 < length schema
  by_rel k None e f = (schema_parts schema rules).some
  by_rel k (Some r) e f =
      let test = passes_at (is_relationship (length schema) (map (λ a. a.name) k.attributes)) k.relationships rel r (kind_at-parts schema kind k rules e).relationships f in
      ltb-true _ _ (and_parts _ _ test).1

  by_look : (o : _) → slice_get schema kind ≡ o → option_map_or (λ (r : Relationship). r.target) (slice_get (option_map_or (λ (k : Kind). k.relationships) o []) rel) 0 < length schema
  by_look None e = (schema_parts schema rules).some
  by_look (Some k) e = by_rel k (slice_get k.relationships rel) e refl
