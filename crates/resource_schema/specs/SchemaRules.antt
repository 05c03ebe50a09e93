-- What every schema keeps, as one test that computes. All rules are of this project, within JSON:API 1.1, "Resource Objects".
use Rattle.std.specs.Prelude.{ℕ, ◌&&◌, Bool, true, not, nat_le, nat_lt, List, [], ◌∷◌, codes, length, map}
use Rattle.std.specs.Option.{option_map_or}
use Rattle.std.specs.List.{list_all, list_any}
use Rattle.std.specs.Ordering.{nat_cmp, is_lt}
use Rattle.std.specs.Cmp.Lexicographic.{slice_cmp}
use Rattle.std.specs.Str.{bytes_eq}
use Rattle.ident_rules.specs.Name.{is_name}
use Rattle.resource_schema.specs.declared.kinds.TheConstants.{KIND_LIMIT, ATTRIBUTE_LIMIT, RELATIONSHIP_LIMIT}
use Rattle.resource_schema.specs.declared.kinds.Kind.{Kind}
use Rattle.resource_schema.specs.declared.kinds.Attribute.{Attribute}
use Rattle.resource_schema.specs.declared.kinds.Relationship.{Relationship}
use Rattle.resource_schema.specs.Forms.{has_form}

-- the texts strictly rise in byte order
abbrev pub are_rising : List (List ℕ) → Bool
are_rising [] = true
are_rising (x ∷ []) = true
are_rising (x ∷ y ∷ more) = is_lt (slice_cmp nat_cmp x y) && are_rising (y ∷ more)

-- the text is one of these
abbrev pub is_one_of : List (List ℕ) → List ℕ → Bool
is_one_of texts text = list_any (bytes_eq text) texts

-- what a resource has besides its fields (JSON:API 1.1, "Fields"), and the word of linkage paths
abbrev pub reserved_fields : List (List ℕ)
reserved_fields = codes "type" ∷ codes "id" ∷ codes "lid" ∷ codes "relationships" ∷ []

-- the word of the operations endpoint
abbrev pub reserved_kinds : List (List ℕ)
reserved_kinds = codes "operations" ∷ []

abbrev pub is_field_name : List ℕ → Bool
is_field_name name = is_name name && not (is_one_of reserved_fields name)

-- a default is a value of the attribute
abbrev pub is_attribute : Attribute → Bool
is_attribute a = is_field_name a.name && option_map_or (has_form a.form a.nullable) a.default true

-- no attribute has the relationship's name, and its target is one of so many types
abbrev pub is_relationship : ℕ → List (List ℕ) → Relationship → Bool
is_relationship kinds attributes r = is_field_name r.name && not (is_one_of attributes r.name) && nat_lt r.target kinds

-- at most so many attributes and relationships, in byte order of their names
abbrev pub is_kind : ℕ → Kind → Bool
is_kind kinds k =
    is_name k.name && not (is_one_of reserved_kinds k.name)
    && nat_le (length k.attributes) ATTRIBUTE_LIMIT && nat_le (length k.relationships) RELATIONSHIP_LIMIT
    && are_rising (map (λ a. a.name) k.attributes) && are_rising (map (λ r. r.name) k.relationships)
    && list_all is_attribute k.attributes && list_all (is_relationship kinds (map (λ a. a.name) k.attributes)) k.relationships

-- 1 to `KIND_LIMIT` types, in byte order of their names
abbrev pub is_schema : List Kind → Bool
is_schema schema =
    nat_lt 0 (length schema) && nat_le (length schema) KIND_LIMIT
    && are_rising (map (λ k. k.name) schema)
    && list_all (is_kind (length schema)) schema
