-- Resource objects, identifiers and linkage as JSON (JSON:API 1.1, "Resource Objects"). Members stand in byte order.
use Rattle.std.specs.Prelude.{ℕ, Bool, true, ◌==◌, ◌++◌, List, [], ◌∷◌, map, Some, None, codes}
use Rattle.std.specs.Option.{option_map_or}
use Rattle.std.specs.List.{list_any, filter, zip}
use Rattle.std.specs.Map.{lookup}
use Rattle.std.specs.Str.{bytes_eq}
use Rattle.serde_json.specs.Data.{Data, null, string, array, object, Members, no_members, member}
use Rattle.serde_json.specs.View.{items_of}
use Rattle.ident_rules.specs.declared.key.Key.{Key}
use Rattle.resource_schema.specs.declared.schema.Schema.{Schema}
use Rattle.resource_schema.specs.declared.kinds.Relationship.{Relationship}
use Rattle.resource_schema.specs.Kinds.{attributes_of, relationships_of, kind_name}
use Rattle.world_cells.specs.declared.rows.Row.{Row}
use Rattle.world_cells.specs.declared.rows.Link.{Link}
use Rattle.world_cells.specs.declared.rows.Link.TheVariants.{One, Many}
use Rattle.request_model.specs.Links.{collection_link, resource_link, related_link, relationship_link}
use Rattle.request_model.specs.Values.{value_data}

-- ---- objects

-- the members of an object, in their order
abbrev pub members_of : List (List ℕ × Data) → Members
members_of [] = no_members
members_of (m ∷ ms) = member m.0 m.1 (members_of ms)

-- an object of these members
abbrev pub object_of : List (List ℕ × Data) → Data
object_of ms = object (members_of ms)

-- an object as a member, or no member where the object would be empty
abbrev pub member_unless_empty : List ℕ → List (List ℕ × Data) → List (List ℕ × Data)
member_unless_empty name [] = []
member_unless_empty name (m ∷ ms) = (name, object_of (m ∷ ms)) ∷ []

-- ---- identifiers and linkage ("Resource Identifier Objects", "Resource Linkage")

-- a resource's identifier
abbrev pub identifier : Schema → Key → Data
identifier schema key = object_of ((codes "id", string key.id) ∷ (codes "type", string (kind_name schema key.kind)) ∷ [])

-- the linkage of a link to resources of a type: null or an identifier, or an array in the stored order
abbrev pub linkage : Schema → ℕ → Link → Data
linkage schema kind (One None) = null
linkage schema kind (One (Some x)) = identifier schema (record { kind = kind; id = x })
linkage schema kind (Many xs) = array (items_of (map (λ x. identifier schema (record { kind = kind; id = x })) xs))

-- ---- paths ("Links"; their form is of this project)

abbrev pub collection_path : Schema → ℕ → List ℕ
collection_path schema kind = collection_link (kind_name schema kind)

abbrev pub resource_path : Schema → Key → List ℕ
resource_path schema key = resource_link (kind_name schema key.kind) key.id

abbrev pub related_path : Schema → Key → List ℕ → List ℕ
related_path schema key rel = related_link (kind_name schema key.kind) key.id rel

abbrev pub relationship_path : Schema → Key → List ℕ → List ℕ
relationship_path schema key rel = relationship_link (kind_name schema key.kind) key.id rel

-- ---- fields ("Sparse Fieldsets")

-- the field sets that were asked for, by type: names of attributes and relationships
abbrev pub Fields : Type 0
Fields = List (ℕ × List (List ℕ))

-- a type that is not named shows all its fields
abbrev pub is_shown : Fields → ℕ → List ℕ → Bool
is_shown fields kind name = option_map_or (list_any (bytes_eq name)) (lookup (λ k. k == kind) fields) true

-- ---- resource objects

abbrev pub attribute_members : Schema → Row → Fields → List (List ℕ × Data)
attribute_members schema row fields =
    map (λ a. (a.0.name, value_data a.1)) (filter (λ a. is_shown fields row.key.kind a.0.name) (zip (attributes_of schema row.key.kind) row.values))

-- a relationship object ("Relationships"): its linkage and its links
abbrev pub relationship_object : Schema → Key → Relationship → Link → Data
relationship_object schema key r link = object_of (
    (codes "data", linkage schema r.target link)
    ∷ (codes "links", object_of ((codes "related", string (related_path schema key r.name)) ∷ (codes "self", string (relationship_path schema key r.name)) ∷ []))
    ∷ [])

abbrev pub relationship_members : Schema → Row → Fields → List (List ℕ × Data)
relationship_members schema row fields =
    map (λ r. (r.0.name, relationship_object schema row.key r.0 r.1)) (filter (λ r. is_shown fields row.key.kind r.0.name) (zip (relationships_of schema row.key.kind) row.links))

-- the resource object of a row under field sets
abbrev pub resource : Schema → Row → Fields → Data
resource schema row fields = object_of (
    member_unless_empty (codes "attributes") (attribute_members schema row fields)
    ++ (codes "id", string row.key.id)
    ∷ (codes "links", object_of ((codes "self", string (resource_path schema row.key)) ∷ []))
    ∷ (member_unless_empty (codes "relationships") (relationship_members schema row fields)
    ++ (codes "type", string (kind_name schema row.key.kind)) ∷ []))
