-- Plans, parts of documents and schema files that no other example tells from their like.
use Rattle.std.specs.Prelude.{◌≡◌, ℕ, List, [], ◌∷◌, true, Some, None, Err, codes, refl}
use Rattle.http_messages.specs.declared.messages.Message.{Message}
use Rattle.http_messages.specs.declared.messages.Field.{Field}
use Rattle.http_messages.specs.declared.messages.Content.TheVariants as content
use Rattle.http_messages.specs.declared.messages.Allow.TheVariants as allow
use Rattle.resource_schema.specs.declared.values.AttrValue.TheVariants as value
use Rattle.resource_schema.specs.declared.values.Form.TheVariants as form
use Rattle.resource_schema.specs.declared.faults.Why.TheVariants as why
use Rattle.resource_schema.specs.declared.targets.Target.TheVariants as target
use Rattle.task_forms.specs.declared.operations.Operation.TheVariants.{Remove, AddLinks}
use Rattle.task_forms.specs.declared.operations.Named.TheVariants as named
use Rattle.task_forms.specs.declared.operations.Where.TheVariants as stands
use Rattle.task_forms.specs.declared.tasks.ReplyForm.TheVariants as reply_form
use Rattle.task_forms.specs.declared.tasks.Task.TheVariants as task
use Rattle.task_forms.specs.declared.tasks.Plan.{Plan}
use Rattle.task_forms.specs.declared.tasks.Plan.TheVariants.{Fixed, Run}
use Rattle.task_forms.specs.Queries.{no_query}
use Rattle.request_model.specs.SchemaFile.{schema_of_text, fault}
use Rattle.request_model.specs.Documents.{value_or_default}
use Rattle.request_model.specs.Plans.{planned}
use Rattle.request_model.proofs.OnLiterals.{requests_on_literals}
use Rattle.request_model.proofs.Blog.{blog}

abbrev field : List ℕ → List ℕ → Field
field name value = record { name = name; value = value }

abbrev message : List ℕ → List ℕ → List Field → List ℕ → Message
message method text fields body = record { method = method; target = text; minor = 1; fields = field (codes "Host") (codes "h") ∷ fields; body = body }

abbrev document_type : Field
document_type = field (codes "Content-Type") (codes "application/vnd.api+json")

abbrev list_type : Field
list_type = field (codes "Content-Type") (codes "application/vnd.api+json; ext=\"https://jsonapi.org/ext/atomic\"")

abbrev length_is : List ℕ → Field
length_is digits = field (codes "Content-Length") digits

abbrev refused : ℕ → List ℕ → Plan
refused status body = Fixed (record { status = status; content = content.Plain; location = None; allow = allow.Nothing; body = body })

-- the values of several `ext` are joined
two_ext_parameters : planned blog (message (codes "POST") (codes "/people") (field (codes "Content-Type") (codes "application/vnd.api+json;ext=\"https://jsonapi.org/ext/atomic\";ext=\"x\"") ∷ length_is (codes "52") ∷ []) (codes "{\"data\":{\"type\":\"people\",\"attributes\":{\"name\":\"A\"}}}"))
    ≡ refused 415 (codes "{\"errors\":[{\"code\":\"unsupported-media-type\",\"source\":{\"header\":\"Content-Type\"},\"status\":\"415\",\"title\":\"Unsupported media type\"}]}")
unfolding requests_on_literals
two_ext_parameters = refl

-- Accept fields are joined before quoted strings are looked for
string_over_two_fields : planned blog (message (codes "GET") (codes "/people/1") (field (codes "Accept") (codes "application/vnd.api+json;a=\"x") ∷ field (codes "Accept") (codes "y\",application/vnd.api+json;a=\"z\"") ∷ []) [])
    ≡ refused 406 (codes "{\"errors\":[{\"code\":\"not-acceptable\",\"source\":{\"header\":\"Accept\"},\"status\":\"406\",\"title\":\"Not acceptable\"}]}")
unfolding requests_on_literals
string_over_two_fields = refl

-- the attributes of a change are judged before its relationships
update_attributes_first : planned blog (message (codes "PATCH") (codes "/articles/1") (document_type ∷ length_is (codes "82") ∷ []) (codes "{\"data\":{\"type\":\"articles\",\"id\":\"1\",\"attributes\":{\"x\":1},\"relationships\":{\"y\":1}}}"))
    ≡ refused 422 (codes "{\"errors\":[{\"code\":\"unknown-field\",\"source\":{\"pointer\":\"/data/attributes/x\"},\"status\":\"422\",\"title\":\"Unknown field\"}]}")
unfolding requests_on_literals
update_attributes_first = refl

-- `op` is judged before `ref` and `href`
word_before_both : planned blog (message (codes "POST") (codes "/operations") (list_type ∷ length_is (codes "58") ∷ []) (codes "{\"atomic:operations\":[{\"op\":\"move\",\"ref\":{},\"href\":\"/x\"}]}"))
    ≡ refused 400 (codes "{\"errors\":[{\"code\":\"bad-document\",\"source\":{\"pointer\":\"/atomic:operations/0/op\"},\"status\":\"400\",\"title\":\"Malformed document\"}]}")
unfolding requests_on_literals
word_before_both = refl

-- a repeated parameter is told before its value is judged
repeated_before_value : planned blog (message (codes "GET") (codes "/articles?sort=title&sort=author") [] [])
    ≡ refused 400 (codes "{\"errors\":[{\"code\":\"repeated-parameter\",\"source\":{\"parameter\":\"sort\"},\"status\":\"400\",\"title\":\"Repeated parameter\"}]}")
unfolding requests_on_literals
repeated_before_value = refl

-- an authority may be empty
empty_authority : planned blog (message (codes "GET") (codes "http:///articles/1") [] [])
    ≡ Run (task.Fetch (record { target = (target.Resource (record { kind = 0; id = codes "1" })); query = no_query }))
unfolding requests_on_literals
empty_authority = refl

-- `q` is a parameter of Content-Type as any other
weight_in_content_type : planned blog (message (codes "POST") (codes "/people") (field (codes "Content-Type") (codes "application/vnd.api+json;q=1") ∷ length_is (codes "52") ∷ []) (codes "{\"data\":{\"type\":\"people\",\"attributes\":{\"name\":\"A\"}}}"))
    ≡ refused 415 (codes "{\"errors\":[{\"code\":\"unsupported-media-type\",\"source\":{\"header\":\"Content-Type\"},\"status\":\"415\",\"title\":\"Unsupported media type\"}]}")
unfolding requests_on_literals
weight_in_content_type = refl

-- a `lid` that is no text does not name anything
null_beside_id : planned blog (message (codes "POST") (codes "/articles/1/relationships/comments") (document_type ∷ length_is (codes "50") ∷ []) (codes "{\"data\":[{\"type\":\"comments\",\"id\":\"1\",\"lid\":null}]}"))
    ≡ Run (task.Change ((AddLinks (record { named = (named.Id (record { kind = 0; id = codes "1" })); place = stands.Plain }) 1 (record { named = (named.Id (record { kind = 1; id = codes "1" })); index = (Some 0) } ∷ [])) ∷ []) reply_form.Empty)
unfolding requests_on_literals
null_beside_id = refl

-- the segments of `href` are decoded
decoded_href : planned blog (message (codes "POST") (codes "/operations") (list_type ∷ length_is (codes "62") ∷ []) (codes "{\"atomic:operations\":[{\"op\":\"remove\",\"href\":\"/p%65ople/%31\"}]}"))
    ≡ Run (task.Change ((Remove (record { named = (named.Id (record { kind = 2; id = codes "1" })); place = stands.Href })) ∷ []) reply_form.Results)
unfolding requests_on_literals
decoded_href = refl

-- a relationship is an object
relationship_null : planned blog (message (codes "POST") (codes "/articles") (document_type ∷ length_is (codes "87") ∷ []) (codes "{\"data\":{\"type\":\"articles\",\"attributes\":{\"title\":\"T\"},\"relationships\":{\"author\":null}}}"))
    ≡ refused 400 (codes "{\"errors\":[{\"code\":\"bad-document\",\"source\":{\"pointer\":\"/data/relationships/author\"},\"status\":\"400\",\"title\":\"Malformed document\"}]}")
unfolding requests_on_literals
relationship_null = refl

-- `attributes` that is there is an object
attributes_null : planned blog (message (codes "POST") (codes "/people") (document_type ∷ length_is (codes "44") ∷ []) (codes "{\"data\":{\"type\":\"people\",\"attributes\":null}}"))
    ≡ refused 400 (codes "{\"errors\":[{\"code\":\"bad-document\",\"source\":{\"pointer\":\"/data/attributes\"},\"status\":\"400\",\"title\":\"Malformed document\"}]}")
unfolding requests_on_literals
attributes_null = refl

-- `relationships` that is there is an object
relationships_null : planned blog (message (codes "PATCH") (codes "/people/1") (document_type ∷ length_is (codes "56") ∷ []) (codes "{\"data\":{\"type\":\"people\",\"id\":\"1\",\"relationships\":null}}"))
    ≡ refused 400 (codes "{\"errors\":[{\"code\":\"bad-document\",\"source\":{\"pointer\":\"/data/relationships\"},\"status\":\"400\",\"title\":\"Malformed document\"}]}")
unfolding requests_on_literals
relationships_null = refl

-- no path is empty
empty_path_behind : planned blog (message (codes "GET") (codes "/articles?include=author,") [] [])
    ≡ refused 400 (codes "{\"errors\":[{\"code\":\"bad-include\",\"source\":{\"parameter\":\"include\"},\"status\":\"400\",\"title\":\"Unsupported include\"}]}")
unfolding requests_on_literals
empty_path_behind = refl

-- no field is empty
empty_field_between : planned blog (message (codes "GET") (codes "/articles?fields[articles]=title,,views") [] [])
    ≡ refused 400 (codes "{\"errors\":[{\"code\":\"bad-fields\",\"source\":{\"parameter\":\"fields[articles]\"},\"status\":\"400\",\"title\":\"Unsupported fields\"}]}")
unfolding requests_on_literals
empty_field_between = refl

-- a member that is there is there, null included
included_null : planned blog (message (codes "POST") (codes "/operations") (list_type ∷ length_is (codes "40") ∷ []) (codes "{\"atomic:operations\":[],\"included\":null}"))
    ≡ refused 400 (codes "{\"errors\":[{\"code\":\"bad-document\",\"source\":{\"pointer\":\"/included\"},\"status\":\"400\",\"title\":\"Malformed document\"}]}")
unfolding requests_on_literals
included_null = refl

-- an id that breaks the rule is told before one of digits alone
digits_too_long : planned blog (message (codes "POST") (codes "/people") (document_type ∷ length_is (codes "99") ∷ []) (codes "{\"data\":{\"type\":\"people\",\"id\":\"11111111111111111111111111111111111111111111111111111111111111111\"}}"))
    ≡ refused 422 (codes "{\"errors\":[{\"code\":\"bad-id\",\"source\":{\"pointer\":\"/data/id\"},\"status\":\"422\",\"title\":\"Malformed id\"}]}")
unfolding requests_on_literals
digits_too_long = refl

-- a local id that refers may be empty
empty_lid_refers : planned blog (message (codes "POST") (codes "/operations") (list_type ∷ length_is (codes "72") ∷ []) (codes "{\"atomic:operations\":[{\"op\":\"remove\",\"ref\":{\"type\":\"people\",\"lid\":\"\"}}]}"))
    ≡ Run (task.Change ((Remove (record { named = (named.Lid 2 []); place = stands.Ref })) ∷ []) reply_form.Results)
unfolding requests_on_literals
empty_lid_refers = refl

-- the form of `ref` is judged before its names
ref_relationship_null : planned blog (message (codes "POST") (codes "/operations") (list_type ∷ length_is (codes "87") ∷ []) (codes "{\"atomic:operations\":[{\"op\":\"update\",\"ref\":{\"type\":\"x\",\"id\":\"1\",\"relationship\":null}}]}"))
    ≡ refused 400 (codes "{\"errors\":[{\"code\":\"bad-document\",\"source\":{\"pointer\":\"/atomic:operations/0/ref\"},\"status\":\"400\",\"title\":\"Malformed document\"}]}")
unfolding requests_on_literals
ref_relationship_null = refl

-- `id` and `lid` are both there, null included
update_lid_null : planned blog (message (codes "POST") (codes "/operations") (list_type ∷ length_is (codes "84") ∷ []) (codes "{\"atomic:operations\":[{\"op\":\"update\",\"data\":{\"type\":\"people\",\"lid\":null,\"id\":\"p\"}}]}"))
    ≡ refused 400 (codes "{\"errors\":[{\"code\":\"bad-document\",\"source\":{\"pointer\":\"/atomic:operations/0/data\"},\"status\":\"400\",\"title\":\"Malformed document\"}]}")
unfolding requests_on_literals
update_lid_null = refl

-- `data` is told before the list is missed
data_without_list : planned blog (message (codes "POST") (codes "/operations") (list_type ∷ length_is (codes "10") ∷ []) (codes "{\"data\":1}"))
    ≡ refused 400 (codes "{\"errors\":[{\"code\":\"bad-document\",\"source\":{\"pointer\":\"/data\"},\"status\":\"400\",\"title\":\"Malformed document\"}]}")
unfolding requests_on_literals
data_without_list = refl

-- null is no flag
null_flag : schema_of_text (codes "{\"types\":{\"a\":{\"client-ids\":null}}}")
    ≡ Err (fault (codes "/types/a/client-ids") why.BadFlag)
unfolding requests_on_literals
null_flag = refl

null_nullable : schema_of_text (codes "{\"types\":{\"a\":{\"attributes\":{\"x\":{\"type\":\"int\",\"nullable\":null}}}}}")
    ≡ Err (fault (codes "/types/a/attributes/x/nullable") why.BadFlag)
unfolding requests_on_literals
null_nullable = refl

-- null is no object
null_attributes : schema_of_text (codes "{\"types\":{\"a\":{\"attributes\":null}}}")
    ≡ Err (fault (codes "/types/a/attributes") why.NotObject)
unfolding requests_on_literals
null_attributes = refl

null_relationships : schema_of_text (codes "{\"types\":{\"a\":{\"relationships\":null}}}")
    ≡ Err (fault (codes "/types/a/relationships") why.NotObject)
unfolding requests_on_literals
null_relationships = refl

-- `relationships` is the name of no relationship
reserved_word : schema_of_text (codes "{\"types\":{\"a\":{\"relationships\":{\"relationships\":{\"kind\":\"one\",\"target\":\"a\"}}}}}")
    ≡ Err (fault (codes "/types/a/relationships/relationships") why.Reserved)
unfolding requests_on_literals
reserved_word = refl

-- a default goes before null
default_before_null : value_or_default [] (0, record { name = codes "x"; form = form.Bool; nullable = true; default = Some (value.Bool true) }) ≡ Some (value.Bool true)
default_before_null = refl
