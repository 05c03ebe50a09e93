-- Types, attributes and relationships by name and by number.
use Rattle.std.specs.Prelude.{ℕ, Bool, true, false, List, [], ◌∷◌, codes, Option, None, slice_get, is_some, ◌||◌}
use Rattle.std.specs.Option.{option_map_or}
use Rattle.std.specs.List.{position}
use Rattle.std.specs.Str.{bytes_eq}
use Rattle.resource_schema.specs.declared.kinds.Kind.{Kind}
use Rattle.resource_schema.specs.declared.kinds.Attribute.{Attribute}
use Rattle.resource_schema.specs.declared.kinds.Relationship.{Relationship}
use Rattle.resource_schema.specs.declared.values.Form.TheVariants as form

-- ---- relationships

-- one that leads to at most one resource of a type
abbrev pub to_one : List ℕ → ℕ → Relationship
to_one name target = record { name = name; many = false; target = target }

-- one that leads to any number of resources of a type
abbrev pub to_many : List ℕ → ℕ → Relationship
to_many name target = record { name = name; many = true; target = target }

-- ---- numbers of names

abbrev pub number_of_kind : List Kind → List ℕ → Option ℕ
number_of_kind schema name = position (λ k. bytes_eq k.name name) schema

abbrev pub number_of_attribute : List Attribute → List ℕ → Option ℕ
number_of_attribute attributes name = position (λ a. bytes_eq a.name name) attributes

abbrev pub number_of_relationship : List Relationship → List ℕ → Option ℕ
number_of_relationship relationships name = position (λ r. bytes_eq r.name name) relationships

-- ---- of a type, by its number

abbrev pub attributes_of : List Kind → ℕ → List Attribute
attributes_of schema kind = option_map_or (λ k. k.attributes) (slice_get schema kind) []

abbrev pub relationships_of : List Kind → ℕ → List Relationship
relationships_of schema kind = option_map_or (λ k. k.relationships) (slice_get schema kind) []

abbrev pub kind_name : List Kind → ℕ → List ℕ
kind_name schema kind = option_map_or (λ k. k.name) (slice_get schema kind) []

abbrev pub has_client_ids : List Kind → ℕ → Bool
has_client_ids schema kind = option_map_or (λ k. k.client_ids) (slice_get schema kind) false

abbrev pub attribute_of : List Kind → ℕ → List ℕ → Option ℕ
attribute_of schema kind name = number_of_attribute (attributes_of schema kind) name

abbrev pub relationship_of : List Kind → ℕ → List ℕ → Option ℕ
relationship_of schema kind name = number_of_relationship (relationships_of schema kind) name

-- a field is an attribute or a relationship (JSON:API 1.1, "Fields")
abbrev pub is_field : List Kind → ℕ → List ℕ → Bool
is_field schema kind name = is_some (attribute_of schema kind name) || is_some (relationship_of schema kind name)

-- ---- of a relationship, by its type's number and its own

abbrev pub target_of : List Kind → ℕ → ℕ → ℕ
target_of schema kind rel = option_map_or (λ r. r.target) (slice_get (relationships_of schema kind) rel) 0

abbrev pub is_many : List Kind → ℕ → ℕ → Bool
is_many schema kind rel = option_map_or (λ r. r.many) (slice_get (relationships_of schema kind) rel) false

-- ---- the built-in schema

-- one type of notes, each with a text
abbrev pub notes : List Kind
notes = record {
  name = codes "notes";
  client_ids = false;
  attributes = record { name = codes "text"; form = form.Text; nullable = false; default = None } ∷ [];
  relationships = [];
} ∷ []
