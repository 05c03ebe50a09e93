-- Documents, worked.
use Rattle.std.specs.Prelude.{◌≡◌, ℕ, true, false, replicate, List, [], ◌∷◌, Some, None, Option, Result, Ok, Err, codes, refl, pos, negsuc, option_map}
use Rattle.resource_schema.specs.declared.values.AttrValue.TheVariants as value
use Rattle.error_objects.specs.declared.codes.Code.{Code}
use Rattle.error_objects.specs.declared.codes.Code.TheVariants as code
use Rattle.error_objects.specs.declared.refusals.Refusal.{Refusal}
use Rattle.task_forms.specs.declared.operations.Named.TheVariants as named
use Rattle.task_forms.specs.declared.operations.Where.TheVariants as stands
use Rattle.task_forms.specs.declared.operations.Who.{Who}
use Rattle.task_forms.specs.declared.operations.Operation.{Operation}
use Rattle.task_forms.specs.declared.operations.Operation.TheVariants.{Create, Update}
use Rattle.error_objects.specs.Refusals.{at_pointer}
use Rattle.serde_json.specs.Data.{string}
use Rattle.task_forms.specs.declared.operations.Member.{Member}
use Rattle.json_forms.specs.Json.{json_of}
use Rattle.request_model.specs.Documents.{create_of, update_of, linkage_from, local_id, is_lid, is_by_path, keeps_rule}
use Rattle.request_model.proofs.OnLiterals.{requests_on_literals}
use Rattle.request_model.proofs.Blog.{blog}

-- an answer of a reader, where the text is JSON
abbrev Answer : Type 0
Answer = Option (Result Operation Refusal)

abbrev create : ℕ → List ℕ → Answer
create kind text = option_map (create_of blog (Some kind) (codes "/data")) (json_of text)

abbrev refused : Code → List ℕ → Answer
refused c at = Some (Err (at_pointer c at))

abbrev ann : Who
ann = record { named = named.Id (record { kind = 2; id = codes "ann" }); place = stands.Plain }

abbrev update_ann : List ℕ → Answer
update_ann text = option_map (update_of blog (Some ann) (codes "/data")) (json_of text)

new_person : create 2 (codes "{\"type\":\"people\",\"id\":\"ann\",\"attributes\":{\"name\":\"Ann\"}}") ≡ Some (Ok (Create 2 (Some (codes "ann")) None (value.Text (codes "Ann") ∷ []) []))
unfolding requests_on_literals
new_person = refl

reserved_id : create 2 (codes "{\"type\":\"people\",\"id\":\"7\",\"attributes\":{\"name\":\"Ann\"}}") ≡ refused code.ReservedId (codes "/data/id")
unfolding requests_on_literals
reserved_id = refl

bad_id : create 2 (codes "{\"type\":\"people\",\"id\":\"a b\",\"attributes\":{\"name\":\"Ann\"}}") ≡ refused code.BadId (codes "/data/id")
unfolding requests_on_literals
bad_id = refl

missing_field : create 2 (codes "{\"type\":\"people\"}") ≡ refused code.MissingField (codes "/data")
unfolding requests_on_literals
missing_field = refl

client_id_unsupported : create 0 (codes "{\"type\":\"articles\",\"id\":\"x\"}") ≡ refused code.ClientIdUnsupported (codes "/data/id")
unfolding requests_on_literals
client_id_unsupported = refl

-- a name with `~` and `/` in a pointer
unknown_field : create 0 (codes "{\"type\":\"articles\",\"attributes\":{\"title\":\"T\",\"a~/b\":1}}") ≡ refused code.UnknownField (codes "/data/attributes/a~0~1b")
unfolding requests_on_literals
unknown_field = refl

no_integer : create 0 (codes "{\"type\":\"articles\",\"attributes\":{\"title\":\"T\",\"views\":1.0}}") ≡ refused code.BadValue (codes "/data/attributes/views")
unfolding requests_on_literals
no_integer = refl

greatest_integer : create 0 (codes "{\"type\":\"articles\",\"attributes\":{\"title\":\"T\",\"views\":9223372036854775807}}")
    ≡ Some (Ok (Create 0 None None (value.Null ∷ value.Text (codes "T") ∷ value.Int (pos 9223372036854775807) ∷ []) []))
unfolding requests_on_literals
greatest_integer = refl

least_integer : create 0 (codes "{\"type\":\"articles\",\"attributes\":{\"title\":\"T\",\"views\":-9223372036854775808}}")
    ≡ Some (Ok (Create 0 None None (value.Null ∷ value.Text (codes "T") ∷ value.Int (negsuc 9223372036854775807) ∷ []) []))
unfolding requests_on_literals
least_integer = refl

-- defaults, an @-member, a local id and links
new_article : create 0 (codes "{\"type\":\"articles\",\"lid\":\"a\",\"attributes\":{\"title\":\"T\",\"@x\":1},\"relationships\":{\"author\":{\"data\":{\"type\":\"people\",\"lid\":\"p\"}},\"comments\":{\"data\":[{\"type\":\"comments\",\"id\":\"1\"}]}}}")
    ≡ Some (Ok (Create 0 None (Some (codes "a")) (value.Null ∷ value.Text (codes "T") ∷ value.Int (pos 0) ∷ []) (
    (0, record { named = named.Lid 2 (codes "p"); index = None } ∷ [])
    ∷ (1, record { named = named.Id (record { kind = 1; id = codes "1" }); index = Some 0 } ∷ [])
    ∷ [])))
unfolding requests_on_literals
new_article = refl

wrong_target : create 0 (codes "{\"type\":\"articles\",\"attributes\":{\"title\":\"T\"},\"relationships\":{\"comments\":{\"data\":[{\"type\":\"people\",\"id\":\"1\"}]}}}") ≡ refused code.WrongTarget (codes "/data/relationships/comments/data/0/type")
unfolding requests_on_literals
wrong_target = refl

id_mismatch : update_ann (codes "{\"type\":\"people\",\"id\":\"bob\"}") ≡ refused code.IdMismatch (codes "/data/id")
unfolding requests_on_literals
id_mismatch = refl

type_mismatch : update_ann (codes "{\"type\":\"notes\",\"id\":\"ann\"}") ≡ refused code.TypeMismatch (codes "/data/type")
unfolding requests_on_literals
type_mismatch = refl

no_change : update_ann (codes "{\"type\":\"people\",\"id\":\"ann\"}") ≡ Some (Ok (Update ann [] []))
unfolding requests_on_literals
no_change = refl

empty_link : option_map (linkage_from blog 0 0 (codes "/data")) (json_of (codes "null")) ≡ Some (Ok [])
unfolding requests_on_literals
empty_link = refl

both_names : option_map (linkage_from blog 0 0 (codes "/data")) (json_of (codes "{\"type\":\"people\",\"id\":\"1\",\"lid\":\"p\"}")) ≡ Some (Err (at_pointer code.BadDocument (codes "/data")))
unfolding requests_on_literals
both_names = refl

-- an id that no resource can have
related_not_found : create 0 (codes "{\"type\":\"articles\",\"attributes\":{\"title\":\"T\"},\"relationships\":{\"author\":{\"data\":{\"type\":\"people\",\"id\":\"a b\"}}}}") ≡ refused code.RelatedNotFound (codes "/data/relationships/author/data/id")
unfolding requests_on_literals
related_not_found = refl

no_object : create 0 (codes "[]") ≡ refused code.BadDocument (codes "/data")
unfolding requests_on_literals
no_object = refl

attributes_no_object : create 0 (codes "{\"type\":\"articles\",\"attributes\":[]}") ≡ refused code.BadDocument (codes "/data/attributes")
unfolding requests_on_literals
attributes_no_object = refl

-- a linkage without `data`
no_linkage : create 0 (codes "{\"type\":\"articles\",\"relationships\":{\"author\":{}}}") ≡ refused code.BadDocument (codes "/data/relationships/author")
unfolding requests_on_literals
no_linkage = refl

-- ---- the type

no_type : create 2 (codes "{\"attributes\":{\"name\":\"A\"}}") ≡ refused code.BadDocument (codes "/data")
unfolding requests_on_literals
no_type = refl

type_no_text : create 2 (codes "{\"type\":1}") ≡ refused code.BadDocument (codes "/data/type")
unfolding requests_on_literals
type_no_text = refl

another_type : create 2 (codes "{\"type\":\"notes\",\"id\":1}") ≡ refused code.TypeMismatch (codes "/data/type")
unfolding requests_on_literals
another_type = refl

no_data_object_of_update : update_ann (codes "null") ≡ refused code.BadDocument (codes "/data")
unfolding requests_on_literals
no_data_object_of_update = refl

no_type_of_update : update_ann (codes "{\"id\":\"ann\"}") ≡ refused code.BadDocument (codes "/data")
unfolding requests_on_literals
no_type_of_update = refl

-- ---- `id` and `lid` of a new resource

id_no_text : create 2 (codes "{\"type\":\"people\",\"id\":7}") ≡ refused code.BadDocument (codes "/data/id")
unfolding requests_on_literals
id_no_text = refl

id_null : create 2 (codes "{\"type\":\"people\",\"id\":null}") ≡ refused code.BadDocument (codes "/data/id")
unfolding requests_on_literals
id_null = refl

-- whether ids are supported is judged before the id
unsupported_first : create 0 (codes "{\"type\":\"articles\",\"id\":\"a b\"}") ≡ refused code.ClientIdUnsupported (codes "/data/id")
unfolding requests_on_literals
unsupported_first = refl

empty_id : create 2 (codes "{\"type\":\"people\",\"id\":\"\"}") ≡ refused code.BadId (codes "/data/id")
unfolding requests_on_literals
empty_id = refl

-- only ids of digits alone are reserved
not_digits_alone : create 2 (codes "{\"type\":\"people\",\"id\":\"7a\",\"attributes\":{\"name\":\"A\"}}") ≡ Some (Ok (Create 2 (Some (codes "7a")) None (value.Text (codes "A") ∷ []) []))
unfolding requests_on_literals
not_digits_alone = refl

lid_no_text : create 2 (codes "{\"type\":\"people\",\"lid\":7}") ≡ refused code.BadDocument (codes "/data/lid")
unfolding requests_on_literals
lid_no_text = refl

empty_lid : create 2 (codes "{\"type\":\"people\",\"lid\":\"\"}") ≡ refused code.BadDocument (codes "/data/lid")
unfolding requests_on_literals
empty_lid = refl

id_before_lid : create 2 (codes "{\"type\":\"people\",\"lid\":\"\",\"id\":\"7\"}") ≡ refused code.ReservedId (codes "/data/id")
unfolding requests_on_literals
id_before_lid = refl

lid_before_fields : create 2 (codes "{\"type\":\"people\",\"lid\":\"\",\"attributes\":1}") ≡ refused code.BadDocument (codes "/data/lid")
unfolding requests_on_literals
lid_before_fields = refl

-- any text is a local id
any_lid : create 2 (codes "{\"type\":\"people\",\"lid\":\"a b\",\"attributes\":{\"name\":\"A\"}}") ≡ Some (Ok (Create 2 None (Some (codes "a b")) (value.Text (codes "A") ∷ []) []))
unfolding requests_on_literals
any_lid = refl

longest_lid : local_id [] (Some (string (replicate 64 97))) ≡ Ok (Some (replicate 64 97))
unfolding requests_on_literals
longest_lid = refl

too_long_lid : local_id (codes "/data/lid") (Some (string (replicate 65 97))) ≡ Err (at_pointer code.BadDocument (codes "/data/lid"))
unfolding requests_on_literals
too_long_lid = refl

-- ---- attributes

null_where_allowed : create 0 (codes "{\"type\":\"articles\",\"attributes\":{\"title\":\"T\",\"draft\":null,\"views\":-1}}") ≡ Some (Ok (Create 0 None None (value.Null ∷ value.Text (codes "T") ∷ value.Int (negsuc 0) ∷ []) []))
unfolding requests_on_literals
null_where_allowed = refl

null_title : create 0 (codes "{\"type\":\"articles\",\"attributes\":{\"title\":null}}") ≡ refused code.BadValue (codes "/data/attributes/title")
unfolding requests_on_literals
null_title = refl

a_flag : create 0 (codes "{\"type\":\"articles\",\"attributes\":{\"title\":\"\",\"draft\":false}}") ≡ Some (Ok (Create 0 None None (value.Bool false ∷ value.Text [] ∷ value.Int (pos 0) ∷ []) []))
unfolding requests_on_literals
a_flag = refl

number_for_text : create 0 (codes "{\"type\":\"articles\",\"attributes\":{\"title\":1}}") ≡ refused code.BadValue (codes "/data/attributes/title")
unfolding requests_on_literals
number_for_text = refl

text_for_flag : create 0 (codes "{\"type\":\"articles\",\"attributes\":{\"draft\":\"true\"}}") ≡ refused code.BadValue (codes "/data/attributes/draft")
unfolding requests_on_literals
text_for_flag = refl

array_for_number : create 0 (codes "{\"type\":\"articles\",\"attributes\":{\"views\":[1]}}") ≡ refused code.BadValue (codes "/data/attributes/views")
unfolding requests_on_literals
array_for_number = refl

object_for_text : create 0 (codes "{\"type\":\"articles\",\"attributes\":{\"title\":{}}}") ≡ refused code.BadValue (codes "/data/attributes/title")
unfolding requests_on_literals
object_for_text = refl

too_great : create 0 (codes "{\"type\":\"articles\",\"attributes\":{\"views\":9223372036854775808}}") ≡ refused code.BadValue (codes "/data/attributes/views")
unfolding requests_on_literals
too_great = refl

too_small : create 0 (codes "{\"type\":\"articles\",\"attributes\":{\"views\":-9223372036854775809}}") ≡ refused code.BadValue (codes "/data/attributes/views")
unfolding requests_on_literals
too_small = refl

-- the default is taken, and `title` has none
no_title : create 0 (codes "{\"type\":\"articles\",\"attributes\":{\"views\":1}}") ≡ refused code.MissingField (codes "/data")
unfolding requests_on_literals
no_title = refl

-- no attribute is a relationship, and the other way round
relationship_as_attribute : create 0 (codes "{\"type\":\"articles\",\"attributes\":{\"author\":null}}") ≡ refused code.UnknownField (codes "/data/attributes/author")
unfolding requests_on_literals
relationship_as_attribute = refl

attribute_as_relationship : create 0 (codes "{\"type\":\"articles\",\"relationships\":{\"title\":{\"data\":null}}}") ≡ refused code.UnknownField (codes "/data/relationships/title")
unfolding requests_on_literals
attribute_as_relationship = refl

attributes_before_relationships : create 0 (codes "{\"type\":\"articles\",\"attributes\":{\"x\":1},\"relationships\":1}") ≡ refused code.UnknownField (codes "/data/attributes/x")
unfolding requests_on_literals
attributes_before_relationships = refl

relationships_before_missing : create 0 (codes "{\"type\":\"articles\",\"relationships\":1}") ≡ refused code.BadDocument (codes "/data/relationships")
unfolding requests_on_literals
relationships_before_missing = refl

-- ---- relationships

ignored_relationship : create 0 (codes "{\"type\":\"articles\",\"attributes\":{\"title\":\"T\"},\"relationships\":{\"@x\":1,\"author\":{\"data\":null}}}") ≡ Some (Ok (Create 0 None None (value.Null ∷ value.Text (codes "T") ∷ value.Int (pos 0) ∷ []) ((0, []) ∷ [])))
unfolding requests_on_literals
ignored_relationship = refl

relationship_no_object : create 0 (codes "{\"type\":\"articles\",\"attributes\":{\"title\":\"T\"},\"relationships\":{\"author\":1}}") ≡ refused code.BadDocument (codes "/data/relationships/author")
unfolding requests_on_literals
relationship_no_object = refl

-- a linkage of articles: `author` is 0, `comments` 1
abbrev link : ℕ → List ℕ → Option (Result (List Member) Refusal)
link rel text = option_map (linkage_from blog 0 rel (codes "/data")) (json_of text)

one_link : link 0 (codes "{\"type\":\"people\",\"id\":\"9\"}") ≡ Some (Ok (record { named = named.Id (record { kind = 2; id = codes "9" }); index = None } ∷ []))
unfolding requests_on_literals
one_link = refl

array_for_one : link 0 (codes "[]") ≡ Some (Err (at_pointer code.BadDocument (codes "/data")))
unfolding requests_on_literals
array_for_one = refl

text_for_one : link 0 (codes "\"9\"") ≡ Some (Err (at_pointer code.BadDocument (codes "/data")))
unfolding requests_on_literals
text_for_one = refl

no_links : link 1 (codes "[]") ≡ Some (Ok [])
unfolding requests_on_literals
no_links = refl

null_for_many : link 1 (codes "null") ≡ Some (Err (at_pointer code.BadDocument (codes "/data")))
unfolding requests_on_literals
null_for_many = refl

one_for_many : link 1 (codes "{\"type\":\"comments\",\"id\":\"1\"}") ≡ Some (Err (at_pointer code.BadDocument (codes "/data")))
unfolding requests_on_literals
one_for_many = refl

many_links : link 1 (codes "[{\"type\":\"comments\",\"lid\":\"a b\"},{\"type\":\"comments\",\"id\":\"1\"}]") ≡ Some (Ok (record { named = named.Lid 1 (codes "a b"); index = Some 0 } ∷ record { named = named.Id (record { kind = 1; id = codes "1" }); index = Some 1 } ∷ []))
unfolding requests_on_literals
many_links = refl

null_in_many : link 1 (codes "[{\"type\":\"comments\",\"id\":\"1\"},null]") ≡ Some (Err (at_pointer code.BadDocument (codes "/data/1")))
unfolding requests_on_literals
null_in_many = refl

identifier_without_type : link 0 (codes "{\"id\":\"9\"}") ≡ Some (Err (at_pointer code.BadDocument (codes "/data")))
unfolding requests_on_literals
identifier_without_type = refl

identifier_without_id : link 0 (codes "{\"type\":\"people\"}") ≡ Some (Err (at_pointer code.BadDocument (codes "/data")))
unfolding requests_on_literals
identifier_without_id = refl

number_for_id : link 0 (codes "{\"type\":\"people\",\"id\":9}") ≡ Some (Err (at_pointer code.BadDocument (codes "/data")))
unfolding requests_on_literals
number_for_id = refl

-- the form of an identifier is judged before its type, and that before its id
form_before_type : link 0 (codes "{\"type\":\"comments\"}") ≡ Some (Err (at_pointer code.BadDocument (codes "/data")))
unfolding requests_on_literals
form_before_type = refl

type_before_id : link 0 (codes "{\"type\":\"comments\",\"id\":\"a b\"}") ≡ Some (Err (at_pointer code.WrongTarget (codes "/data/type")))
unfolding requests_on_literals
type_before_id = refl

bad_id_of_member : link 1 (codes "[{\"type\":\"comments\",\"id\":\"1\"},{\"type\":\"comments\",\"id\":\"\"}]") ≡ Some (Err (at_pointer code.RelatedNotFound (codes "/data/1/id")))
unfolding requests_on_literals
bad_id_of_member = refl

-- ---- updates

no_name : update_ann (codes "{\"type\":\"people\"}") ≡ refused code.BadDocument (codes "/data")
unfolding requests_on_literals
no_name = refl

update_id_no_text : update_ann (codes "{\"type\":\"people\",\"id\":1}") ≡ refused code.BadDocument (codes "/data/id")
unfolding requests_on_literals
update_id_no_text = refl

-- where the path names the resource, a local id names nothing
lid_beside_id : update_ann (codes "{\"type\":\"people\",\"id\":\"ann\",\"lid\":\"p\"}") ≡ Some (Ok (Update ann [] []))
unfolding requests_on_literals
lid_beside_id = refl

lid_for_id : update_ann (codes "{\"type\":\"people\",\"lid\":\"ann\"}") ≡ refused code.BadDocument (codes "/data")
unfolding requests_on_literals
lid_for_id = refl

type_before_name : update_ann (codes "{\"type\":\"notes\",\"id\":1}") ≡ refused code.TypeMismatch (codes "/data/type")
unfolding requests_on_literals
type_before_name = refl

id_before_fields : update_ann (codes "{\"type\":\"people\",\"id\":\"bob\",\"attributes\":1}") ≡ refused code.IdMismatch (codes "/data/id")
unfolding requests_on_literals
id_before_fields = refl

-- an update takes no defaults
some_fields : option_map (update_of blog (Some (record { named = named.Id (record { kind = 0; id = codes "1" }); place = stands.Plain })) (codes "/data")) (json_of (codes "{\"type\":\"articles\",\"id\":\"1\",\"attributes\":{\"views\":2,\"draft\":true},\"relationships\":{\"comments\":{\"data\":[]}}}")) ≡ Some (Ok (Update (record { named = named.Id (record { kind = 0; id = codes "1" }); place = stands.Plain }) ((0, value.Bool true) ∷ (2, value.Int (pos 2)) ∷ []) ((1, []) ∷ [])))
unfolding requests_on_literals
some_fields = refl

unknown_field_of_update : update_ann (codes "{\"type\":\"people\",\"id\":\"ann\",\"attributes\":{\"age\":1}}") ≡ refused code.UnknownField (codes "/data/attributes/age")
unfolding requests_on_literals
unknown_field_of_update = refl

unknown_link_of_update : update_ann (codes "{\"type\":\"people\",\"id\":\"ann\",\"relationships\":{\"author\":{\"data\":null}}}") ≡ refused code.UnknownField (codes "/data/relationships/author")
unfolding requests_on_literals
unknown_link_of_update = refl

-- what data names is not named by the path
data_is_not_plain : is_by_path stands.Data ≡ false
unfolding requests_on_literals
data_is_not_plain = refl

-- no JSON text gives these bytes
names_are_utf8 : keeps_rule (named.Lid 0 (255 ∷ [])) ≡ false
unfolding requests_on_literals
names_are_utf8 = refl

local_ids_are_utf8 : is_lid (255 ∷ []) ≡ false
unfolding requests_on_literals
local_ids_are_utf8 = refl
