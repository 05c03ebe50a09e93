-- The schema that a JSON value describes, or its first fault (of this project; names as in JSON:API 1.1, "Member Names" and "Fields").
use Rattle.std.specs.Prelude.{ℕ, ◌==◌, Bool, true, false, not, nat_lt, if◌then◌else◌, List, [], codes, length, map, Option, Some, None, Result, Ok, option_map, option_and_then, ⊤, IfSome}
use Rattle.std.specs.Option.{ok_or}
use Rattle.std.specs.List.{position, AllByRecursion}
use Rattle.std.specs.Str.{bytes_eq}
use Rattle.serde_json.specs.Data.{Data}
use Rattle.serde_json.specs.Find.{get, as_object, as_bool}
use Rattle.resource_schema.specs.declared.schema.Schema.{Schema}
use Rattle.resource_schema.specs.declared.kinds.TheConstants.{KIND_LIMIT, ATTRIBUTE_LIMIT, RELATIONSHIP_LIMIT}
use Rattle.resource_schema.specs.declared.kinds.Kind.{Kind}
use Rattle.resource_schema.specs.declared.kinds.Attribute.{Attribute}
use Rattle.resource_schema.specs.declared.kinds.Relationship.{Relationship}
use Rattle.resource_schema.specs.declared.values.Form.{Form}
use Rattle.resource_schema.specs.declared.values.Form.TheVariants as form
use Rattle.resource_schema.specs.declared.values.AttrValue.{AttrValue}
use Rattle.resource_schema.specs.declared.faults.SchemaFault.{SchemaFault}
use Rattle.resource_schema.specs.declared.faults.Why.{Why}
use Rattle.resource_schema.specs.declared.faults.Why.TheVariants as why
use Rattle.request_model.specs.Words.{all_ok, result_map}
use Rattle.resource_schema.specs.SchemaRules.{is_one_of, reserved_fields, reserved_kinds}
use Rattle.request_model.specs.Results.{◌>>=◌, ◌>>◌, err_if}
use Rattle.ident_rules.specs.Name.{is_name}
use Rattle.request_model.specs.Values.{value_from}
use Rattle.json_forms.specs.Json.{json_of, members_list, text_at}
use Rattle.json_forms.specs.Order.{AreAscending}
use Rattle.json_forms.specs.Pointer.{◌//◌}

-- a fault and its place, a pointer (RFC 6901)
abbrev pub fault : List ℕ → Why → SchemaFault
fault place w = record { place = place; why = w }

-- ---- parts

-- the value is an object
abbrev pub file_object : List ℕ → Option Data → Result (List (List ℕ × Data)) SchemaFault
file_object place d = ok_or (option_map members_list (option_and_then as_object d)) (fault place why.NotObject)

-- an object of at most so many fields, which may be absent
abbrev pub file_fields : List ℕ → ℕ → Option Data → Result (List (List ℕ × Data)) SchemaFault
file_fields place limit None = Ok []
file_fields place limit (Some d) = do
  fields ← file_object place (Some d)
  err_if (nat_lt limit (length fields)) (fault place why.Limit)
  Ok fields

-- a flag, which is false where it is absent
abbrev pub flag_at : List ℕ → Option Data → Result Bool SchemaFault
flag_at place None = Ok false
flag_at place (Some d) = ok_or (as_bool d) (fault place why.BadFlag)

-- a name that keeps the rule of names and is not reserved
abbrev pub name_fault : List (List ℕ) → List ℕ → List ℕ → Result ⊤ SchemaFault
name_fault reserved place name = do
  err_if (not (is_name name)) (fault place why.BadName)
  err_if (is_one_of reserved name) (fault place why.Reserved)

-- ---- attributes

-- the form of attributes by its word
abbrev pub form_of : List ℕ → Option Form
form_of text =
    if bytes_eq text (codes "int") then Some form.Int
    else (if bytes_eq text (codes "text") then Some form.Text
    else (if bytes_eq text (codes "bool") then Some form.Bool else None))

-- a default is a value of the attribute
abbrev pub default_at : List ℕ → Form → Bool → Option Data → Result (Option AttrValue) SchemaFault
default_at place f nullable None = Ok None
default_at place f nullable (Some d) = result_map Some (ok_or (value_from f nullable d) (fault place why.BadDefault))

-- one attribute: its name, itself as an object, `type`, `nullable`, `default`
abbrev pub attribute_from : List ℕ → List ℕ × Data → Result Attribute SchemaFault
attribute_from group (name, d) = do
  let at = group // name
  name_fault reserved_fields at name
  file_object at (Some d)
  f ← ok_or (option_and_then form_of (text_at (codes "type") d)) (fault (at // codes "type") why.BadType)
  nullable ← flag_at (at // codes "nullable") (get (codes "nullable") d)
  default ← default_at (at // codes "default") f nullable (get (codes "default") d)
  Ok (record { name = name; form = f; nullable = nullable; default = default })

-- ---- relationships

-- whether a relationship leads to many (JSON:API 1.1, "Resource Linkage")
abbrev pub many_of : List ℕ → Option Bool
many_of text = if bytes_eq text (codes "many") then Some true else (if bytes_eq text (codes "one") then Some false else None)

-- one relationship: its name, itself as an object, `kind`, `target`; `kinds` are the names of the types, and `attributes` those of the type's attributes
abbrev pub relationship_from : List (List ℕ) → List (List ℕ) → List ℕ → List ℕ × Data → Result Relationship SchemaFault
relationship_from kinds attributes group (name, d) = do
  let at = group // name
  name_fault reserved_fields at name
  err_if (is_one_of attributes name) (fault at why.Shared)
  file_object at (Some d)
  many ← ok_or (option_and_then many_of (text_at (codes "kind") d)) (fault (at // codes "kind") why.BadKind)
  target ← ok_or (option_and_then (λ t. position (bytes_eq t) kinds) (text_at (codes "target") d)) (fault (at // codes "target") why.BadTarget)
  Ok (record { name = name; many = many; target = target })

-- ---- types

-- the attributes of a type, each in order
abbrev pub attributes_at : List ℕ → Data → Result (List Attribute) SchemaFault
attributes_at at d = do
  own ← file_fields (at // codes "attributes") ATTRIBUTE_LIMIT (get (codes "attributes") d)
  all_ok (map (attribute_from (at // codes "attributes")) own)

-- the relationships of a type whose attributes have these names, each in order
abbrev pub relationships_at : List (List ℕ) → List (List ℕ) → List ℕ → Data → Result (List Relationship) SchemaFault
relationships_at kinds attributes at d = do
  linked ← file_fields (at // codes "relationships") RELATIONSHIP_LIMIT (get (codes "relationships") d)
  all_ok (map (relationship_from kinds attributes (at // codes "relationships")) linked)

-- one type: its name, itself as an object, `client-ids`, `attributes`, `relationships`
abbrev pub kind_from : List (List ℕ) → List ℕ × Data → Result Kind SchemaFault
kind_from kinds (name, d) = do
  let at = codes "/types" // name
  name_fault reserved_kinds at name
  file_object at (Some d)
  client_ids ← flag_at (at // codes "client-ids") (get (codes "client-ids") d)
  attributes ← attributes_at at d
  relationships ← relationships_at kinds (map (λ a. a.name) attributes) at d
  Ok (record { name = name; client_ids = client_ids; attributes = attributes; relationships = relationships })

-- the schema, or the first fault of a walk through the value in byte order of names
abbrev pub schema_of : Data → Result Schema SchemaFault
schema_of d = do
  file_object (codes "/") (Some d)
  types ← file_object (codes "/types") (get (codes "types") d)
  err_if (length types == 0) (fault (codes "/types") why.Empty)
  err_if (nat_lt KIND_LIMIT (length types)) (fault (codes "/types") why.Limit)
  all_ok (map (kind_from (map (λ t. t.0) types)) types)

-- the schema of a file
abbrev pub schema_of_text : List ℕ → Result Schema SchemaFault
schema_of_text bytes = do
  d ← ok_or (json_of bytes) (fault (codes "/") why.NoJson)
  schema_of d

-- ---- names in byte order, as every value that was read has them

-- where the value is an object, the names of its members strictly rise
abbrev pub NamesRise : Data → Type 0
NamesRise d = IfSome (as_object d) AreAscending

-- so do the names of a type's attributes, and of its relationships
abbrev pub FieldNamesRise : Data → Type 0
FieldNamesRise d = IfSome (get (codes "attributes") d) NamesRise × IfSome (get (codes "relationships") d) NamesRise

-- so do those of each member's fields
abbrev pub EachFieldNamesRise : Data → Type 0
EachFieldNamesRise d = IfSome (as_object d) (λ ms. AllByRecursion (λ m. FieldNamesRise m.1) (members_list ms))

-- so do the names of a file's types, and those of their fields
abbrev pub SchemaNamesRise : Data → Type 0
SchemaNamesRise d = IfSome (get (codes "types") d) (λ types. NamesRise types × EachFieldNamesRise types)
