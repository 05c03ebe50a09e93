-- Attributes and relationships that were read fit their type.
use Rattle.std.specs.Prelude.{ℕ, ◌<◌, true, not, List, [], ◌∷◌, codes, length, map, filter, Option, Some, None, Ok, IfSome, MatchOption, slice_get, ⊤}
use Rattle.std.specs.Option.{ok_or, option_map_or}
use Rattle.std.specs.List.{AllZip, AllByRecursion, position}
use Rattle.std.specs.Str.{bytes_eq}
use Rattle.std.proofs.Common.{◌≡◌, refl, sym, subst}
use Rattle.std.proofs.lemmas.Slice.Eq.{bytes_eq-Decides}
use Rattle.serde_json.specs.Data.{Data}
use Rattle.serde_json.specs.Find.{get, as_object}
use Rattle.json_forms.specs.Json.{members_list}
use Rattle.json_forms.specs.Order.{IsInByteOrder, IsBefore}
use Rattle.json_forms.specs.Pointer.{◌//◌}
use Rattle.resource_schema.specs.declared.schema.Schema.{Schema}
use Rattle.resource_schema.specs.declared.kinds.Kind.{Kind}
use Rattle.resource_schema.specs.declared.kinds.Attribute.{Attribute}
use Rattle.resource_schema.specs.declared.kinds.Relationship.{Relationship}
use Rattle.resource_schema.specs.declared.values.AttrValue.{AttrValue}
use Rattle.resource_schema.specs.Forms.{HasForm}
use Rattle.resource_schema.specs.Kinds.{attributes_of, relationships_of, attribute_of, relationship_of}
use Rattle.resource_schema.specs.SchemaLaws.{kind_at-parts}
use Rattle.resource_schema.specs.SchemaRules.{is_schema}
use Rattle.task_forms.specs.declared.operations.Member.{Member}
use Rattle.task_forms.specs.Fit.{AreRising, FitsValue, FitsValues, FitsLinkage, FitsLinks}
use Rattle.error_objects.specs.declared.codes.Code.TheVariants as code
use Rattle.error_objects.specs.Refusals.{at_pointer}
use Rattle.request_model.specs.Words.{begins}
use Rattle.request_model.specs.Values.{value_from}
use Rattle.request_model.specs.Documents.{bad_document, object_at, fields_at, given_value, given_values, given_link, given_links, linkage_from}
use Rattle.request_model.specs.ReadingLaws.{bind-Ok, map-Ok, ok_or-Ok, all_ok-zip}
use Rattle.request_model.proofs.Zips.{zip-into, zip-right, all-always, all-filter, position-found}
use Rattle.request_model.proofs.Ascents.{Ascends, name_of, ascends-from_test, filter-ascends, place-rises}
use Rattle.request_model.proofs.Ordered.{object-ordered, get-ordered}
use Rattle.request_model.proofs.SchemaFileLemmas.{value_from-form}
use Rattle.request_model.proofs.LinkageFits.{linkage-fits}

-- ---- numbers of names in order rise

module _ {X : Type 0} (name : X → List ℕ) (xs : List X) (ascend : Ascends (map name xs)) where
  two-rise : (k l : List ℕ) (i j : ℕ) → IsBefore k l → position (λ x. bytes_eq (name x) k) xs ≡ Some i → position (λ x. bytes_eq (name x) l) xs ≡ Some j → i < j
  two-rise k l i j before p q =
      let a = position-found (λ x. bytes_eq (name x) k) xs i p in
      let b = position-found (λ x. bytes_eq (name x) l) xs j q in
      let left : name a.0 ≡ k = (bytes_eq-Decides (name a.0) k).0 a.2 in
      let right : name b.0 ≡ l = (bytes_eq-Decides (name b.0) l).0 b.2 in
      let first : IsBefore (name a.0) l = subst (λ t. IsBefore t l) (sym left) before in
      place-rises name xs i j a.0 b.0 ascend a.1 b.1 (subst (λ t. IsBefore (name a.0) t) (sym right) first)

module _ {X V : Type 0} (name : X → List ℕ) (xs : List X) (ascend : Ascends (map name xs)) where
  abbrev IsAt : List ℕ × Data → ℕ × V → Type 0
  IsAt m v = position (λ x. bytes_eq (name x) m.0) xs ≡ Some v.0

  pub numbers-rise : (ms : List (List ℕ × Data)) (vs : List (ℕ × V)) → Ascends (map name_of ms) → AllZip IsAt ms vs → AreRising (map (λ v. v.0) vs)
  numbers-rise [] [] a z = tt
  numbers-rise [] (v ∷ vs) a z = absurd z
  numbers-rise (m ∷ ms) [] a z = absurd z
  numbers-rise (m ∷ []) (v ∷ []) a z = tt
  numbers-rise (m ∷ []) (v ∷ w ∷ vs) a z = absurd z.1
  numbers-rise (m ∷ n ∷ ms) (v ∷ []) a z = absurd z.1
  numbers-rise (m ∷ n ∷ ms) (v ∷ w ∷ vs) a z = (two-rise name xs ascend m.0 n.0 v.0 w.0 a.0.0 z.0 z.1.0, numbers-rise (n ∷ ms) (w ∷ vs) a.1 z.1)

-- ---- the fields of an object in order

fields_at-ascend : (at : List ℕ) (o : Option Data) (l : List (List ℕ × Data)) → IfSome o IsInByteOrder → fields_at at o ≡ Ok l → Ascends (map name_of l) × AllByRecursion (λ m. IsInByteOrder m.1) l
fields_at-ascend at None l order e = let same : l ≡ [] = cc e in rw same (tt, tt)
fields_at-ascend at (Some d) l order e =
    let a = map-Ok (λ ms. filter (λ m. not (begins (codes "@") m.0)) (members_list ms)) (object_at at d) l e in
    let whole = object-ordered d a.0 order (ok_or-Ok (as_object d) (bad_document at) a.0 a.1) in
    rw (sym a.2) (filter-ascends _ (members_list a.0) whole.0, all-filter _ _ (members_list a.0) whole.1)

-- ---- attributes

attributes-ascend : (schema : Schema) (kind : ℕ) → is_schema schema ≡ true → Ascends (map (λ (a : Attribute). a.name) (attributes_of schema kind))
attributes-ascend schema kind rules = by_look (slice_get schema kind) refl where
  by_look : (o : Option Kind) → slice_get schema kind ≡ o → Ascends (map (λ (a : Attribute). a.name) (option_map_or (λ (k : Kind). k.attributes) o []))
  by_look None e = tt
  by_look (Some k) e = ascends-from_test (map (λ a. a.name) k.attributes) (kind_at-parts schema kind k rules e).rising_attributes

given_value-fits : (schema : Schema) (kind : ℕ) (group : List ℕ) (m : List ℕ × Data) (v : ℕ × AttrValue) → given_value schema kind group m ≡ Ok v
    → (attribute_of schema kind m.0 ≡ Some v.0) × FitsValue schema kind v
given_value-fits schema kind group m v e =
    let a = bind-Ok (ok_or (attribute_of schema kind m.0) (at_pointer code.UnknownField (group // m.0))) _ v e in
    let b = bind-Ok (ok_or (slice_get (attributes_of schema kind) a.0) (at_pointer code.UnknownField (group // m.0))) _ v a.2 in
    let c = bind-Ok (ok_or (value_from b.0.form b.0.nullable m.1) (at_pointer code.BadValue (group // m.0))) _ v b.2 in
    let place : attribute_of schema kind m.0 ≡ Some a.0 = ok_or-Ok (attribute_of schema kind m.0) _ a.0 a.1 in
    let found : slice_get (attributes_of schema kind) a.0 ≡ Some b.0 = ok_or-Ok (slice_get (attributes_of schema kind) a.0) _ b.0 b.1 in
    let value : HasForm b.0 c.0 = value_from-form b.0.form b.0.nullable m.1 c.0 (ok_or-Ok (value_from b.0.form b.0.nullable m.1) _ c.0 c.1) in
    let same : (a.0, c.0) ≡ v = cc c.2 in
    let fits : MatchOption (slice_get (attributes_of schema kind) a.0) ⊥ (λ a. HasForm a c.0) = subst (λ o. MatchOption o ⊥ (λ a. HasForm a c.0)) (sym found) value in
    subst (λ v. (attribute_of schema kind m.0 ≡ Some v.0) × FitsValue schema kind v) same (place, fits)

-- the attributes that are given
pub given_values-fit : (schema : Schema) (kind : ℕ) (at : List ℕ) (d : Data) (given : List (ℕ × AttrValue)) → is_schema schema ≡ true → IsInByteOrder d → given_values schema kind at d ≡ Ok given
    → FitsValues schema kind given
given_values-fit schema kind at d given rules order e =
    let a = bind-Ok (fields_at (at // codes "attributes") (get (codes "attributes") d)) _ given e in
    let ascend = (fields_at-ascend (at // codes "attributes") (get (codes "attributes") d) a.0 (get-ordered (codes "attributes") d order) a.1).0 in
    let z = all_ok-zip (given_value schema kind (at // codes "attributes")) a.0 given a.2 in
    record {
      rising = numbers-rise (λ a. a.name) (attributes_of schema kind) (attributes-ascend schema kind rules) a.0 given ascend (zip-into _ _ a.0 given (λ m v q. (given_value-fits schema kind (at // codes "attributes") m v q).0) z);
      each = zip-right (λ m. ⊤) _ (FitsValue schema kind) a.0 given (λ m v t q. (given_value-fits schema kind (at // codes "attributes") m v q).1) (all-always (λ m. ⊤) a.0 (λ m. tt)) z;
    }

-- ---- relationships

relationships-ascend : (schema : Schema) (kind : ℕ) → is_schema schema ≡ true → Ascends (map (λ (r : Relationship). r.name) (relationships_of schema kind))
relationships-ascend schema kind rules = by_look (slice_get schema kind) refl where
  by_look : (o : Option Kind) → slice_get schema kind ≡ o → Ascends (map (λ (r : Relationship). r.name) (option_map_or (λ (k : Kind). k.relationships) o []))
  by_look None e = tt
  by_look (Some k) e = ascends-from_test (map (λ r. r.name) k.relationships) (kind_at-parts schema kind k rules e).rising_relationships

-- a relationship that a name has is known
pub relationship-known : (schema : Schema) (kind : ℕ) (name : List ℕ) (rel : ℕ) → relationship_of schema kind name ≡ Some rel → rel < length (relationships_of schema kind)
relationship-known schema kind name rel e = (position-found (λ r. bytes_eq r.name name) (relationships_of schema kind) rel e).3

given_link-fits : (schema : Schema) (kind : ℕ) (group : List ℕ) (m : List ℕ × Data) (l : ℕ × List Member) → is_schema schema ≡ true → given_link schema kind group m ≡ Ok l
    → (relationship_of schema kind m.0 ≡ Some l.0) × FitsLinkage schema kind l.0 l.1
given_link-fits schema kind group m l rules e =
    let a = bind-Ok (ok_or (relationship_of schema kind m.0) (at_pointer code.UnknownField (group // m.0))) _ l e in
    let b = bind-Ok (ok_or (get (codes "data") m.1) (bad_document (group // m.0))) _ l a.2 in
    let c = bind-Ok (linkage_from schema kind a.0 (group // m.0 // codes "data") b.0) _ l b.2 in
    let place : relationship_of schema kind m.0 ≡ Some a.0 = ok_or-Ok (relationship_of schema kind m.0) _ a.0 a.1 in
    let same : (a.0, c.0) ≡ l = cc c.2 in
    let fits = linkage-fits schema kind a.0 (group // m.0 // codes "data") b.0 c.0 rules (relationship-known schema kind m.0 a.0 place) c.1 in
    subst (λ l. (relationship_of schema kind m.0 ≡ Some l.0) × FitsLinkage schema kind l.0 l.1) same (place, fits)

-- the relationships that are given
pub given_links-fit : (schema : Schema) (kind : ℕ) (at : List ℕ) (d : Data) (links : List (ℕ × List Member)) → is_schema schema ≡ true → IsInByteOrder d → given_links schema kind at d ≡ Ok links
    → FitsLinks schema kind links
given_links-fit schema kind at d links rules order e =
    let a = bind-Ok (fields_at (at // codes "relationships") (get (codes "relationships") d)) _ links e in
    let ascend = (fields_at-ascend (at // codes "relationships") (get (codes "relationships") d) a.0 (get-ordered (codes "relationships") d order) a.1).0 in
    let z = all_ok-zip (given_link schema kind (at // codes "relationships")) a.0 links a.2 in
    record {
      rising = numbers-rise (λ r. r.name) (relationships_of schema kind) (relationships-ascend schema kind rules) a.0 links ascend (zip-into _ _ a.0 links (λ m l q. (given_link-fits schema kind (at // codes "relationships") m l rules q).0) z);
      each = zip-right (λ m. ⊤) _ (λ l. FitsLinkage schema kind l.0 l.1) a.0 links (λ m l t q. (given_link-fits schema kind (at // codes "relationships") m l rules q).1) (all-always (λ m. ⊤) a.0 (λ m. tt)) z;
    }
