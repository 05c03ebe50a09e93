-- The parts of resource objects, as the code puts them together.
use Rattle.std.specs.Prelude.{ℕ, Bool, if◌then◌else◌, List, [], ◌∷◌, ◌++◌, map, codes}
use Rattle.serde_json.specs.Data.{Data, string, array, object, Members, no_members, member, put}
use Rattle.serde_json.specs.View.{items_of}
use Rattle.resource_schema.specs.declared.schema.Schema.{Schema}
use Rattle.resource_schema.specs.Kinds.{attributes_of, relationships_of}
use Rattle.store_model.specs.Resource.{object_of, identifier}

-- ---- members that are put, or not

abbrev pub put_if : Bool → List ℕ → Data → Members → Members
put_if shown name d members = if shown then put name d members else members

abbrev pub put_unless_none : List ℕ → Members → Members → Members
put_unless_none name no_members members = members
put_unless_none name (member k d ms) members = put name (object (member k d ms)) members

-- ---- linkages

abbrev pub identifier_of : Schema → ℕ → List ℕ → Data
identifier_of schema kind id = identifier schema (record { kind = kind; id = id })

abbrev pub identifiers : Schema → ℕ → List (List ℕ) → Data
identifiers schema kind ids = array (items_of (map (identifier_of schema kind) ids))

-- ---- objects of parts

abbrev pub only_self : List ℕ → Data
only_self path = object_of ((codes "self", string path) ∷ [])

abbrev pub relationship_parts : Data → List ℕ → List ℕ → Data
relationship_parts linkage related own = object_of ((codes "data", linkage) ∷ (codes "links", object_of ((codes "related", string related) ∷ (codes "self", string own) ∷ [])) ∷ [])

abbrev pub unless_none : List ℕ → Members → List (List ℕ × Data)
unless_none name no_members = []
unless_none name (member k d ms) = (name, object (member k d ms)) ∷ []

abbrev pub resource_parts : Members → List ℕ → Data → Members → List ℕ → Data
resource_parts attributes id links relationships kind = object_of (
    unless_none (codes "attributes") attributes
    ++ (codes "id", string id)
    ∷ (codes "links", links)
    ∷ (unless_none (codes "relationships") relationships
    ++ (codes "type", string kind) ∷ []))

-- ---- names of fields

abbrev pub attribute_names : Schema → ℕ → List (List ℕ)
attribute_names schema kind = map (λ a. a.name) (attributes_of schema kind)

abbrev pub relationship_names : Schema → ℕ → List (List ℕ)
relationship_names schema kind = map (λ r. r.name) (relationships_of schema kind)
