-- Schema files, worked.
use Rattle.std.specs.Prelude.{◌≡◌, ℕ, zero, suc, List, [], ◌∷◌, true, false, Some, Result, Ok, Err, codes, refl}
use Rattle.serde_json.specs.Data.{null, object, Members, no_members, member}
use Rattle.resource_schema.specs.declared.schema.Schema.{Schema}
use Rattle.resource_schema.specs.Kinds.{to_many}
use Rattle.resource_schema.specs.declared.faults.SchemaFault.{SchemaFault}
use Rattle.resource_schema.specs.declared.faults.Why.{Why}
use Rattle.resource_schema.specs.declared.faults.Why.TheVariants as why
use Rattle.resource_schema.specs.declared.values.Form.TheVariants as form
use Rattle.resource_schema.specs.declared.values.AttrValue.TheVariants as value
use Rattle.resource_schema.specs.SchemaRules.{is_schema}
use Rattle.request_model.specs.SchemaFile.{schema_of, schema_of_text, fault}
use Rattle.resource_schema.specs.Kinds.{notes}
use Rattle.request_model.proofs.OnLiterals.{requests_on_literals}
use Rattle.request_model.proofs.Blog.{blog, blog_text}

abbrev faulty : List ℕ → Why → Result Schema SchemaFault
faulty place w = Err (fault place w)

built_in : schema_of_text (codes "{\"types\":{\"notes\":{\"attributes\":{\"text\":{\"type\":\"text\"}}}}}") ≡ Ok notes
unfolding requests_on_literals
built_in = refl

schema_of_blog : schema_of_text blog_text ≡ Ok blog
unfolding requests_on_literals
schema_of_blog = refl

unknown_form : schema_of_text (codes "{\"types\":{\"notes\":{\"attributes\":{\"text\":{\"type\":\"float\"}}}}}") ≡ faulty (codes "/types/notes/attributes/text/type") why.BadType
unfolding requests_on_literals
unknown_form = refl

no_json : schema_of_text (codes "{") ≡ faulty (codes "/") why.NoJson
unfolding requests_on_literals
no_json = refl

no_types : schema_of_text (codes "{}") ≡ faulty (codes "/types") why.NotObject
unfolding requests_on_literals
no_types = refl

empty_types : schema_of_text (codes "{\"types\":{}}") ≡ faulty (codes "/types") why.Empty
unfolding requests_on_literals
empty_types = refl

escaped_name : schema_of_text (codes "{\"types\":{\"a/b\":{}}}") ≡ faulty (codes "/types/a~1b") why.BadName
unfolding requests_on_literals
escaped_name = refl

-- the walk: the first type in byte order, and within it its name, flag, attributes, relationships
first_type : schema_of_text (codes "{\"types\":{\"b\":1,\"a\":{\"relationships\":{\"x\":{\"kind\":\"one\",\"target\":\"c\"}},\"attributes\":{\"x\":{\"type\":\"int\"}}}}}") ≡ faulty (codes "/types/a/relationships/x") why.Shared
unfolding requests_on_literals
first_type = refl

unknown_target : schema_of_text (codes "{\"types\":{\"a\":{\"relationships\":{\"x\":{\"kind\":\"one\",\"target\":\"c\"}}}}}") ≡ faulty (codes "/types/a/relationships/x/target") why.BadTarget
unfolding requests_on_literals
unknown_target = refl

default_of_form : schema_of_text (codes "{\"types\":{\"a\":{\"attributes\":{\"x\":{\"type\":\"int\",\"default\":null}}}}}") ≡ faulty (codes "/types/a/attributes/x/default") why.BadDefault
unfolding requests_on_literals
default_of_form = refl

notes_keeps : is_schema notes ≡ true
notes_keeps = refl

blog_keeps : is_schema blog ≡ true
blog_keeps = refl

reserved_kind : schema_of_text (codes "{\"types\":{\"operations\":{}}}") ≡ faulty (codes "/types/operations") why.Reserved
unfolding requests_on_literals
reserved_kind = refl

reserved_field : schema_of_text (codes "{\"types\":{\"a\":{\"attributes\":{\"id\":{\"type\":\"int\"}}}}}") ≡ faulty (codes "/types/a/attributes/id") why.Reserved
unfolding requests_on_literals
reserved_field = refl

no_flag : schema_of_text (codes "{\"types\":{\"a\":{\"client-ids\":1}}}") ≡ faulty (codes "/types/a/client-ids") why.BadFlag
unfolding requests_on_literals
no_flag = refl

unknown_kind : schema_of_text (codes "{\"types\":{\"a\":{\"relationships\":{\"x\":{\"kind\":\"two\",\"target\":\"a\"}}}}}") ≡ faulty (codes "/types/a/relationships/x/kind") why.BadKind
unfolding requests_on_literals
unknown_kind = refl

-- so many members of an object
members : ℕ → Members
members zero = no_members
members (suc n) = member (codes "a") null (members n)

too_many_types : schema_of (object (member (codes "types") (object (members 65)) no_members)) ≡ faulty (codes "/types") why.Limit
unfolding requests_on_literals members
too_many_types = refl

-- 64 are not too many: the first of these is no object
most_types : schema_of (object (member (codes "types") (object (members 64)) no_members)) ≡ faulty (codes "/types/a") why.NotObject
unfolding requests_on_literals members
most_types = refl

-- ---- the walk, part by part

root_no_object : schema_of_text (codes "[]") ≡ faulty (codes "/") why.NotObject
unfolding requests_on_literals
root_no_object = refl

types_no_object : schema_of_text (codes "{\"types\":[]}") ≡ faulty (codes "/types") why.NotObject
unfolding requests_on_literals
types_no_object = refl

type_no_object : schema_of_text (codes "{\"types\":{\"a\":1}}") ≡ faulty (codes "/types/a") why.NotObject
unfolding requests_on_literals
type_no_object = refl

bad_name : schema_of_text (codes "{\"types\":{\"a-\":1}}") ≡ faulty (codes "/types/a-") why.BadName
unfolding requests_on_literals
bad_name = refl

attributes_no_object : schema_of_text (codes "{\"types\":{\"a\":{\"attributes\":1}}}") ≡ faulty (codes "/types/a/attributes") why.NotObject
unfolding requests_on_literals
attributes_no_object = refl

attribute_no_object : schema_of_text (codes "{\"types\":{\"a\":{\"attributes\":{\"x\":1}}}}") ≡ faulty (codes "/types/a/attributes/x") why.NotObject
unfolding requests_on_literals
attribute_no_object = refl

attribute_name : schema_of_text (codes "{\"types\":{\"a\":{\"attributes\":{\"_x\":1}}}}") ≡ faulty (codes "/types/a/attributes/_x") why.BadName
unfolding requests_on_literals
attribute_name = refl

no_form : schema_of_text (codes "{\"types\":{\"a\":{\"attributes\":{\"x\":{}}}}}") ≡ faulty (codes "/types/a/attributes/x/type") why.BadType
unfolding requests_on_literals
no_form = refl

form_no_text : schema_of_text (codes "{\"types\":{\"a\":{\"attributes\":{\"x\":{\"type\":1,\"nullable\":1}}}}}") ≡ faulty (codes "/types/a/attributes/x/type") why.BadType
unfolding requests_on_literals
form_no_text = refl

nullable_no_flag : schema_of_text (codes "{\"types\":{\"a\":{\"attributes\":{\"x\":{\"type\":\"int\",\"nullable\":1,\"default\":\"y\"}}}}}") ≡ faulty (codes "/types/a/attributes/x/nullable") why.BadFlag
unfolding requests_on_literals
nullable_no_flag = refl

default_of_text : schema_of_text (codes "{\"types\":{\"a\":{\"attributes\":{\"x\":{\"type\":\"text\",\"nullable\":true,\"default\":1}}}}}") ≡ faulty (codes "/types/a/attributes/x/default") why.BadDefault
unfolding requests_on_literals
default_of_text = refl

relationships_no_object : schema_of_text (codes "{\"types\":{\"a\":{\"relationships\":1}}}") ≡ faulty (codes "/types/a/relationships") why.NotObject
unfolding requests_on_literals
relationships_no_object = refl

relationship_no_object : schema_of_text (codes "{\"types\":{\"a\":{\"relationships\":{\"x\":1}}}}") ≡ faulty (codes "/types/a/relationships/x") why.NotObject
unfolding requests_on_literals
relationship_no_object = refl

relationship_name : schema_of_text (codes "{\"types\":{\"a\":{\"relationships\":{\"x y\":1}}}}") ≡ faulty (codes "/types/a/relationships/x y") why.BadName
unfolding requests_on_literals
relationship_name = refl

reserved_relationship : schema_of_text (codes "{\"types\":{\"a\":{\"relationships\":{\"type\":1}}}}") ≡ faulty (codes "/types/a/relationships/type") why.Reserved
unfolding requests_on_literals
reserved_relationship = refl

shared_before_object : schema_of_text (codes "{\"types\":{\"a\":{\"attributes\":{\"x\":{\"type\":\"int\"}},\"relationships\":{\"x\":1}}}}") ≡ faulty (codes "/types/a/relationships/x") why.Shared
unfolding requests_on_literals
shared_before_object = refl

no_kind : schema_of_text (codes "{\"types\":{\"a\":{\"relationships\":{\"x\":{\"target\":\"b\"}}}}}") ≡ faulty (codes "/types/a/relationships/x/kind") why.BadKind
unfolding requests_on_literals
no_kind = refl

no_target : schema_of_text (codes "{\"types\":{\"a\":{\"relationships\":{\"x\":{\"kind\":\"many\"}}}}}") ≡ faulty (codes "/types/a/relationships/x/target") why.BadTarget
unfolding requests_on_literals
no_target = refl

flag_before_attributes : schema_of_text (codes "{\"types\":{\"a\":{\"client-ids\":\"true\",\"attributes\":1}}}") ≡ faulty (codes "/types/a/client-ids") why.BadFlag
unfolding requests_on_literals
flag_before_attributes = refl

attributes_before_relationships : schema_of_text (codes "{\"types\":{\"a\":{\"attributes\":{\"x\":{\"type\":\"int\",\"default\":1.5}},\"relationships\":1}}}") ≡ faulty (codes "/types/a/attributes/x/default") why.BadDefault
unfolding requests_on_literals
attributes_before_relationships = refl

-- `lid` names no attribute, as a resource object has a member `lid`
reserved_lid : schema_of_text (codes "{\"types\":{\"a\":{\"attributes\":{\"lid\":1}}}}") ≡ faulty (codes "/types/a/attributes/lid") why.Reserved
unfolding requests_on_literals
reserved_lid = refl

-- other members are ignored, and a type may be empty
empty_type : schema_of_text (codes "{\"types\":{\"a\":{\"note\":1}},\"x\":1}") ≡ Ok (record { name = codes "a"; client_ids = false; attributes = []; relationships = [] } ∷ [])
unfolding requests_on_literals
empty_type = refl

-- a type may lead to itself, and null may be a default
own_target : schema_of_text (codes "{\"types\":{\"a\":{\"attributes\":{\"x\":{\"type\":\"bool\",\"nullable\":true,\"default\":null},\"y\":{\"type\":\"bool\",\"nullable\":false,\"default\":true}},\"relationships\":{\"z\":{\"kind\":\"many\",\"target\":\"a\"}}}}}") ≡ Ok (record {
  name = codes "a";
  client_ids = false;
  attributes = record { name = codes "x"; form = form.Bool; nullable = true; default = Some value.Null } ∷ record { name = codes "y"; form = form.Bool; nullable = false; default = Some (value.Bool true) } ∷ [];
  relationships = to_many (codes "z") 0 ∷ [];
} ∷ [])
unfolding requests_on_literals
own_target = refl

-- so many attributes or relationships of one type
fields_of : List ℕ → ℕ → Result Schema SchemaFault
fields_of group n = schema_of (object (member (codes "types") (object (member (codes "b") (object (member group (object (members n)) no_members)) no_members)) no_members))

too_many_attributes : fields_of (codes "attributes") 65 ≡ faulty (codes "/types/b/attributes") why.Limit
unfolding requests_on_literals members fields_of
too_many_attributes = refl

most_attributes : fields_of (codes "attributes") 64 ≡ faulty (codes "/types/b/attributes/a") why.NotObject
unfolding requests_on_literals members fields_of
most_attributes = refl

too_many_relationships : fields_of (codes "relationships") 33 ≡ faulty (codes "/types/b/relationships") why.Limit
unfolding requests_on_literals members fields_of
too_many_relationships = refl

most_relationships : fields_of (codes "relationships") 32 ≡ faulty (codes "/types/b/relationships/a") why.NotObject
unfolding requests_on_literals members fields_of
most_relationships = refl
