-- Schemas that keep the rules, and schemas that break one.
use Rattle.std.specs.Prelude.{◌≡◌, ℕ, pos, negsuc, true, false, List, [], ◌∷◌, codes, Some, None, refl}
use Rattle.std.specs.Str.{is_utf8, chars}
use lib.Utf8.{encode}
use Rattle.resource_schema.specs.declared.kinds.Kind.{Kind}
use Rattle.resource_schema.specs.declared.kinds.Attribute.{Attribute}
use Rattle.resource_schema.specs.declared.kinds.Relationship.{Relationship}
use Rattle.resource_schema.specs.declared.values.Form.TheVariants as form
use Rattle.resource_schema.specs.declared.values.AttrValue.TheVariants as value
use Rattle.resource_schema.specs.Forms.{has_form}
use Rattle.resource_schema.specs.Kinds.{to_one, to_many, notes, number_of_kind, attribute_of, is_field, target_of, is_many, has_client_ids, kind_name}
use Rattle.resource_schema.specs.SchemaRules.{is_schema, is_field_name}

-- the schema of a blog: articles, comments and people
abbrev blog : List Kind
blog =
    record {
      name = codes "articles";
      client_ids = false;
      attributes = record { name = codes "draft"; form = form.Bool; nullable = true; default = None }
          ∷ record { name = codes "title"; form = form.Text; nullable = false; default = None }
          ∷ record { name = codes "views"; form = form.Int; nullable = false; default = Some (value.Int (pos 0)) } ∷ [];
      relationships = to_one (codes "author") 2 ∷ to_many (codes "comments") 1 ∷ [];
    }
    ∷ record {
      name = codes "comments";
      client_ids = false;
      attributes = record { name = codes "text"; form = form.Text; nullable = false; default = None } ∷ [];
      relationships = to_one (codes "author") 2 ∷ [];
    }
    ∷ record {
      name = codes "people";
      client_ids = true;
      attributes = record { name = codes "name"; form = form.Text; nullable = false; default = None } ∷ [];
      relationships = [];
    } ∷ []

notes_keeps_the_rules : is_schema notes ≡ true
notes_keeps_the_rules = refl

blog_keeps_the_rules : is_schema blog ≡ true
blog_keeps_the_rules = refl

a_schema_has_a_type : is_schema [] ≡ false
a_schema_has_a_type = refl

abbrev as_attributes : List (List ℕ) → List Attribute
as_attributes [] = []
as_attributes (n ∷ ns) = record { name = n; form = form.Int; nullable = false; default = None } ∷ as_attributes ns

abbrev as_relationships : ℕ → List (List ℕ) → List Relationship
as_relationships target [] = []
as_relationships target (n ∷ ns) = to_one n target ∷ as_relationships target ns

-- one type of this name, with these attributes, and relationships of these names to the type of that number
abbrev one : List ℕ → List (List ℕ) → List (List ℕ) → ℕ → List Kind
one name attributes relationships target =
    record {
      name = name;
      client_ids = false;
      attributes = as_attributes attributes;
      relationships = as_relationships target relationships;
    } ∷ []

types_are_not_called_operations : is_schema (one (codes "operations") [] [] 0) ≡ false
types_are_not_called_operations = refl

names_end_in_letters_or_digits : is_schema (one (codes "notes_") [] [] 0) ≡ false
names_end_in_letters_or_digits = refl

fields_have_byte_order : is_schema (one (codes "notes") (codes "b" ∷ codes "a" ∷ []) [] 0) ≡ false
fields_have_byte_order = refl

no_field_stands_twice : is_schema (one (codes "notes") (codes "a" ∷ codes "a" ∷ []) [] 0) ≡ false
no_field_stands_twice = refl

attributes_and_relationships_share_no_name : is_schema (one (codes "notes") (codes "a" ∷ []) (codes "a" ∷ []) 0) ≡ false
attributes_and_relationships_share_no_name = refl

no_field_is_called_id : is_schema (one (codes "notes") (codes "id" ∷ []) [] 0) ≡ false
no_field_is_called_id = refl

fields_may_be_called_links : is_field_name (codes "links") ≡ true
fields_may_be_called_links = refl

targets_are_types_of_the_schema : is_schema (one (codes "notes") [] (codes "next" ∷ []) 1) ≡ false
targets_are_types_of_the_schema = refl

types_may_lead_to_themselves : is_schema (one (codes "notes") [] (codes "next" ∷ []) 0) ≡ true
types_may_lead_to_themselves = refl

comments_are_type_one : number_of_kind blog (codes "comments") ≡ Some 1
comments_are_type_one = refl

no_type_is_called_tags : number_of_kind blog (codes "tags") ≡ None
no_type_is_called_tags = refl

views_are_attribute_two : attribute_of blog 0 (codes "views") ≡ Some 2
views_are_attribute_two = refl

comments_of_articles_are_many : is_many blog 0 1 ≡ true
comments_of_articles_are_many = refl

authors_are_people : kind_name blog (target_of blog 0 0) ≡ codes "people"
authors_are_people = refl

people_choose_their_ids : has_client_ids blog 2 ≡ true
people_choose_their_ids = refl

authors_are_fields : is_field blog 0 (codes "author") ≡ true
authors_are_fields = refl

the_greatest_integer : has_form form.Int false (value.Int (pos 9223372036854775807)) ≡ true
the_greatest_integer = refl

one_more_is_too_great : has_form form.Int false (value.Int (pos 9223372036854775808)) ≡ false
one_more_is_too_great = refl

the_least_integer : has_form form.Int false (value.Int (negsuc 9223372036854775807)) ≡ true
the_least_integer = refl

null_only_where_nullable : has_form form.Text false value.Null ≡ false
null_only_where_nullable = refl

a_text_is_no_integer : has_form form.Int true (value.Text (codes "1")) ≡ false
a_text_is_no_integer = refl

a_text_of_bytes_past_ascii : has_form form.Text false (value.Text (195 ∷ 169 ∷ [])) ≡ true
unfolding is_utf8 chars encode
a_text_of_bytes_past_ascii = refl

-- one byte of the two is missing
a_text_is_utf8 : has_form form.Text false (value.Text (195 ∷ [])) ≡ false
unfolding is_utf8 chars encode
a_text_is_utf8 = refl

-- `text` of these notes has the default
abbrev notes_by_default : List ℕ → List Kind
notes_by_default text =
    record {
      name = codes "notes";
      client_ids = false;
      attributes = record { name = codes "text"; form = form.Text; nullable = false; default = Some (value.Text text) } ∷ [];
      relationships = [];
    } ∷ []

a_default_is_a_value : is_schema (notes_by_default (codes "none")) ≡ true
unfolding is_utf8 chars encode
a_default_is_a_value = refl

a_default_is_utf8 : is_schema (notes_by_default (255 ∷ [])) ≡ false
unfolding is_utf8 chars encode
a_default_is_utf8 = refl
