-- Resource objects and linkages hold no float.
use Rattle.std.proofs.Common.{◌≡◌, ℕ, ◌||◌, false, List, [], ◌∷◌, ◌++◌, map, Some, None, refl, ap, ◌∙◌}
use Rattle.std.specs.Prelude.{pos, negsuc, codes}
use Rattle.std.specs.List.{filter, zip}
use Rattle.serde_json.specs.Data.{Data, string}
use Rattle.serde_json.specs.View.{items_of}
use Rattle.serde_json.specs.Written.{has_float, items_have_float, members_have_float}
use Rattle.resource_schema.specs.declared.schema.Schema.{Schema}
use Rattle.resource_schema.specs.declared.values.AttrValue.{AttrValue}
use Rattle.resource_schema.specs.declared.values.AttrValue.TheVariants as value
use Rattle.resource_schema.specs.Kinds.{attributes_of, relationships_of, kind_name}
use Rattle.world_cells.specs.declared.rows.Row.{Row}
use Rattle.world_cells.specs.declared.rows.Link.{Link}
use Rattle.world_cells.specs.declared.rows.Link.TheVariants.{One, Many}
use Rattle.request_model.specs.Values.{value_data}
use Rattle.store_model.specs.Resource.{Fields, is_shown, members_of, object_of, member_unless_empty, linkage, relationship_object, resource_path, attribute_members, relationship_members, resource}
use Rattle.resource_objects.specs.Objects.{identifier_of}

value-no_float : (v : AttrValue) → has_float (value_data v) ≡ false
value-no_float value.Null = refl
value-no_float (value.Int (pos n)) = refl
value-no_float (value.Int (negsuc n)) = refl
value-no_float (value.Text t) = refl
value-no_float (value.Bool b) = refl

members-no_float : {A : Type 0} (name : A → List ℕ) (f : A → Data) → ((x : A) → has_float (f x) ≡ false) → (xs : List A) → members_have_float (members_of (map (λ x. (name x, f x)) xs)) ≡ false
members-no_float name f each [] = refl
members-no_float name f each (x ∷ xs) = ap (λ b. b || members_have_float (members_of (map (λ x. (name x, f x)) xs))) (each x) ∙ members-no_float name f each xs

items-no_float : {A : Type 0} (f : A → Data) → ((x : A) → has_float (f x) ≡ false) → (xs : List A) → items_have_float (items_of (map f xs)) ≡ false
items-no_float f each [] = refl
items-no_float f each (x ∷ xs) = ap (λ b. b || items_have_float (items_of (map f xs))) (each x) ∙ items-no_float f each xs

pub linkage-no_float : (schema : Schema) (kind : ℕ) (link : Link) → has_float (linkage schema kind link) ≡ false
linkage-no_float schema kind (One None) = refl
linkage-no_float schema kind (One (Some x)) = refl
linkage-no_float schema kind (Many xs) = items-no_float (identifier_of schema kind) (λ x. refl) xs

parts-no_float : (shown related : List (List ℕ × Data)) (id path kind : List ℕ) → members_have_float (members_of shown) ≡ false → members_have_float (members_of related) ≡ false
    → has_float (object_of (member_unless_empty (codes "attributes") shown ++ (codes "id", string id) ∷ (codes "links", object_of ((codes "self", string path) ∷ [])) ∷ (member_unless_empty (codes "relationships") related ++ (codes "type", string kind) ∷ []))) ≡ false
parts-no_float [] [] id path kind a b = refl
parts-no_float [] (r ∷ related) id path kind a b = ap (λ t. t || false) b
parts-no_float (x ∷ shown) [] id path kind a b = ap (λ t. t || false) a
parts-no_float (x ∷ shown) (r ∷ related) id path kind a b = ap (λ t. t || (members_have_float (members_of (r ∷ related)) || false)) a ∙ ap (λ t. t || false) b

pub resource-no_float : (schema : Schema) (row : Row) (fields : Fields) → has_float (resource schema row fields) ≡ false
resource-no_float schema row fields =
    parts-no_float (attribute_members schema row fields) (relationship_members schema row fields) row.key.id (resource_path schema row.key) (kind_name schema row.key.kind)
    (members-no_float (λ e. e.0.name) (λ e. value_data e.1) (λ e. value-no_float e.1) (filter (λ a. is_shown fields row.key.kind a.0.name) (zip (attributes_of schema row.key.kind) row.values)))
    (members-no_float (λ e. e.0.name) (λ e. relationship_object schema row.key e.0 e.1) (λ e. ap (λ b. b || false) (linkage-no_float schema e.0.target e.1)) (filter (λ r. is_shown fields row.key.kind r.0.name) (zip (relationships_of schema row.key.kind) row.links)))
