-- Plans, worked.
use Rattle.std.specs.Prelude.{◌≡◌, ℕ, List, [], ◌∷◌, true, false, Some, None, Err, codes, refl}
use Rattle.http_messages.specs.declared.messages.Message.{Message}
use Rattle.http_messages.specs.declared.messages.Field.{Field}
use Rattle.resource_schema.specs.declared.values.AttrValue.TheVariants as value
use Rattle.resource_schema.specs.declared.targets.Target.TheVariants as target
use Rattle.task_forms.specs.declared.operations.Operation.TheVariants.{Create, Update, Remove, SetLinks, AddLinks, DropLinks}
use Rattle.task_forms.specs.declared.operations.Named.TheVariants as named
use Rattle.task_forms.specs.declared.operations.Where.TheVariants as stands
use Rattle.task_forms.specs.declared.tasks.ReplyForm.TheVariants as reply_form
use Rattle.task_forms.specs.declared.tasks.Task.TheVariants as task
use Rattle.task_forms.specs.declared.tasks.Plan.{Plan}
use Rattle.task_forms.specs.declared.tasks.Plan.TheVariants.{Fixed, Run}
use Rattle.http_messages.specs.declared.messages.Content.TheVariants as content
use Rattle.http_messages.specs.declared.messages.Allow.{Allow}
use Rattle.http_messages.specs.declared.messages.Allow.TheVariants as allow
use Rattle.error_objects.specs.declared.codes.Code.TheVariants as code
use Rattle.error_objects.specs.Refusals.{refusal}
use Rattle.task_forms.specs.Queries.{no_query}
use Rattle.resource_schema.specs.Kinds.{notes}
use Rattle.request_model.specs.Plans.{planned, change_of, is_list_target}
use Rattle.request_model.proofs.OnLiterals.{requests_on_literals}
use Rattle.request_model.proofs.Blog.{blog}

abbrev field : List ℕ → List ℕ → Field
field name value = record { name = name; value = value }

abbrev message : List ℕ → List ℕ → List Field → List ℕ → Message
message method text fields body = record { method = method; target = text; minor = 1; fields = field (codes "Host") (codes "h") ∷ fields; body = body }

abbrev json_api : Field
json_api = field (codes "Content-Type") (codes "application/vnd.api+json")

abbrev fixed : ℕ → Allow → List ℕ → Plan
fixed status a body = Fixed (record { status = status; content = content.Plain; location = None; allow = a; body = body })

a_post : planned notes (message (codes "POST") (codes "/notes") (json_api ∷ []) (codes "{\"data\":{\"type\":\"notes\",\"attributes\":{\"text\":\"hello\"}}}"))
    ≡ Run (task.Change (Create 0 None None (value.Text (codes "hello") ∷ []) [] ∷ []) reply_form.Created)
unfolding requests_on_literals
a_post = refl

a_get : planned notes (message (codes "HEAD") (codes "HTTP://h/notes/1") [] []) ≡ Run (task.Fetch (record { target = target.Resource (record { kind = 0; id = codes "1" }); query = no_query }))
unfolding requests_on_literals
a_get = refl

-- a type with another parameter
charset : planned notes (message (codes "POST") (codes "/notes") (field (codes "Content-Type") (codes "application/vnd.api+json; charset=utf-8") ∷ []) (codes "{"))
    ≡ fixed 415 allow.Nothing (codes "{\"errors\":[{\"code\":\"unsupported-media-type\",\"source\":{\"header\":\"Content-Type\"},\"status\":\"415\",\"title\":\"Unsupported media type\"}]}")
unfolding requests_on_literals
charset = refl

none_accepted : planned notes (message (codes "GET") (codes "/notes") (field (codes "Accept") (codes "application/vnd.api+json; charset=utf-8") ∷ []) [])
    ≡ fixed 406 allow.Nothing (codes "{\"errors\":[{\"code\":\"not-acceptable\",\"source\":{\"header\":\"Accept\"},\"status\":\"406\",\"title\":\"Not acceptable\"}]}")
unfolding requests_on_literals
none_accepted = refl

one_accepted : planned notes (message (codes "GET") (codes "/notes") (field (codes "Accept") (codes "application/vnd.api+json; charset=utf-8, application/vnd.api+json") ∷ []) [])
    ≡ Run (task.Fetch (record { target = target.Collection 0; query = no_query }))
unfolding requests_on_literals
one_accepted = refl

unknown_method : planned notes (message (codes "PUT") (codes "/notes/1") [] []) ≡ fixed 405 allow.Resource (codes "{\"errors\":[{\"code\":\"method-not-allowed\",\"status\":\"405\",\"title\":\"Method not allowed\"}]}")
unfolding requests_on_literals
unknown_method = refl

no_utf8 : planned notes (message (codes "GET") (codes "/notes/%FF") [] []) ≡ fixed 404 allow.Nothing (codes "{\"errors\":[{\"code\":\"not-found\",\"status\":\"404\",\"title\":\"Not found\"}]}")
unfolding requests_on_literals
no_utf8 = refl

no_json : planned notes (message (codes "POST") (codes "/notes") (json_api ∷ []) (codes "{")) ≡ fixed 400 allow.Nothing (codes "{\"errors\":[{\"code\":\"bad-json\",\"status\":\"400\",\"title\":\"Malformed JSON\"}]}")
unfolding requests_on_literals
no_json = refl

-- the query is judged before the body
query_of_post : planned notes (message (codes "POST") (codes "/notes?x=1") (json_api ∷ []) (codes "{"))
    ≡ fixed 400 allow.Nothing (codes "{\"errors\":[{\"code\":\"unknown-parameter\",\"source\":{\"parameter\":\"x\"},\"status\":\"400\",\"title\":\"Unknown parameter\"}]}")
unfolding requests_on_literals
query_of_post = refl

removal : planned blog (message (codes "DELETE") (codes "/people/ann") [] (codes "{")) ≡ Run (task.Change (Remove (record { named = named.Id (record { kind = 2; id = codes "ann" }); place = stands.Plain }) ∷ []) reply_form.Empty)
unfolding requests_on_literals
removal = refl

cleared : planned blog (message (codes "PATCH") (codes "/articles/1/relationships/author") (json_api ∷ []) (codes "{\"data\":null}"))
    ≡ Run (task.Change (SetLinks (record { named = named.Id (record { kind = 0; id = codes "1" }); place = stands.Plain }) 0 [] ∷ []) reply_form.Empty)
unfolding requests_on_literals
cleared = refl

post_to_one : planned blog (message (codes "POST") (codes "/articles/1/relationships/author") (json_api ∷ []) (codes "{\"data\":null}"))
    ≡ fixed 405 allow.One (codes "{\"errors\":[{\"code\":\"method-not-allowed\",\"status\":\"405\",\"title\":\"Method not allowed\"}]}")
unfolding requests_on_literals
post_to_one = refl

list_with_extension : planned blog (message (codes "POST") (codes "/operations") (field (codes "Content-Type") (codes "application/vnd.api+json; ext=\"https://jsonapi.org/ext/atomic\"") ∷ []) (codes "{\"atomic:operations\":[{\"op\":\"remove\",\"href\":\"/people/9\"}]}"))
    ≡ Run (task.Change (Remove (record { named = named.Id (record { kind = 2; id = codes "9" }); place = stands.Href }) ∷ []) reply_form.Results)
unfolding requests_on_literals
list_with_extension = refl

bad_target : planned notes (message (codes "GET") (codes "notes") [] []) ≡ fixed 400 allow.Nothing (codes "{\"errors\":[{\"code\":\"bad-target\",\"status\":\"400\",\"title\":\"Malformed request target\"}]}")
unfolding requests_on_literals
bad_target = refl

more_comments : planned blog (message (codes "POST") (codes "/articles/1/relationships/comments") (json_api ∷ []) (codes "{\"data\":[{\"type\":\"comments\",\"id\":\"2\"}]}"))
    ≡ Run (task.Change (AddLinks (record { named = named.Id (record { kind = 0; id = codes "1" }); place = stands.Plain }) 1 (record { named = named.Id (record { kind = 1; id = codes "2" }); index = Some 0 } ∷ []) ∷ []) reply_form.Empty)
unfolding requests_on_literals
more_comments = refl

fewer_comments : planned blog (message (codes "DELETE") (codes "/articles/1/relationships/comments") (json_api ∷ []) (codes "{\"data\":[{\"type\":\"comments\",\"id\":\"3\"}]}"))
    ≡ Run (task.Change (DropLinks (record { named = named.Id (record { kind = 0; id = codes "1" }); place = stands.Plain }) 1 (record { named = named.Id (record { kind = 1; id = codes "3" }); index = Some 0 } ∷ []) ∷ []) reply_form.Empty)
unfolding requests_on_literals
fewer_comments = refl

-- a coding of the content
with_coding : planned notes (message (codes "POST") (codes "/notes") (json_api ∷ field (codes "content-encoding") (codes "gzip") ∷ []) (codes "{"))
    ≡ fixed 415 allow.Nothing (codes "{\"errors\":[{\"code\":\"unsupported-media-type\",\"source\":{\"header\":\"Content-Encoding\"},\"status\":\"415\",\"title\":\"Unsupported media type\"}]}")
unfolding requests_on_literals
with_coding = refl

no_data : planned notes (message (codes "POST") (codes "/notes") (json_api ∷ []) (codes "{}"))
    ≡ fixed 400 allow.Nothing (codes "{\"errors\":[{\"code\":\"bad-document\",\"source\":{\"pointer\":\"\"},\"status\":\"400\",\"title\":\"Malformed document\"}]}")
unfolding requests_on_literals
no_data = refl

-- a removal needs no Content-Type, and a good one is as well
removal_with_type : planned blog (message (codes "DELETE") (codes "/people/ann") (json_api ∷ []) []) ≡ Run (task.Change (Remove (record { named = named.Id (record { kind = 2; id = codes "ann" }); place = stands.Plain }) ∷ []) reply_form.Empty)
unfolding requests_on_literals
removal_with_type = refl

removal_with_charset : planned blog (message (codes "DELETE") (codes "/people/ann") (field (codes "Content-Type") (codes "application/vnd.api+json; charset=utf-8") ∷ []) []) ≡ fixed 415 allow.Nothing (codes "{\"errors\":[{\"code\":\"unsupported-media-type\",\"source\":{\"header\":\"Content-Type\"},\"status\":\"415\",\"title\":\"Unsupported media type\"}]}")
unfolding requests_on_literals
removal_with_charset = refl

removal_with_query : planned blog (message (codes "DELETE") (codes "/people/ann?include=author") ([]) []) ≡ fixed 400 allow.Nothing (codes "{\"errors\":[{\"code\":\"unknown-parameter\",\"source\":{\"parameter\":\"include\"},\"status\":\"400\",\"title\":\"Unknown parameter\"}]}")
unfolding requests_on_literals
removal_with_query = refl

removal_of_links_without_type : planned blog (message (codes "DELETE") (codes "/articles/1/relationships/comments") ([]) (codes "{\"data\":[]}")) ≡ fixed 415 allow.Nothing (codes "{\"errors\":[{\"code\":\"unsupported-media-type\",\"source\":{\"header\":\"Content-Type\"},\"status\":\"415\",\"title\":\"Unsupported media type\"}]}")
unfolding requests_on_literals
removal_of_links_without_type = refl

post_without_type : planned blog (message (codes "POST") (codes "/people") ([]) (codes "{")) ≡ fixed 415 allow.Nothing (codes "{\"errors\":[{\"code\":\"unsupported-media-type\",\"source\":{\"header\":\"Content-Type\"},\"status\":\"415\",\"title\":\"Unsupported media type\"}]}")
unfolding requests_on_literals
post_without_type = refl

list_without_extension : planned blog (message (codes "POST") (codes "/operations") (json_api ∷ []) (codes "{")) ≡ fixed 415 allow.Nothing (codes "{\"errors\":[{\"code\":\"unsupported-media-type\",\"source\":{\"header\":\"Content-Type\"},\"status\":\"415\",\"title\":\"Unsupported media type\"}]}")
unfolding requests_on_literals
list_without_extension = refl

an_update : planned blog (message (codes "PATCH") (codes "/people/ann") (json_api ∷ []) (codes "{\"data\":{\"type\":\"people\",\"id\":\"ann\",\"attributes\":{\"name\":\"B\"}}}")) ≡ Run (task.Change (Update (record { named = named.Id (record { kind = 2; id = codes "ann" }); place = stands.Plain }) ((0, value.Text (codes "B")) ∷ []) [] ∷ []) reply_form.Updated)
unfolding requests_on_literals
an_update = refl

update_of_other : planned blog (message (codes "PATCH") (codes "/people/ann") (json_api ∷ []) (codes "{\"data\":{\"type\":\"people\",\"id\":\"bob\"}}")) ≡ fixed 409 allow.Nothing (codes "{\"errors\":[{\"code\":\"id-mismatch\",\"source\":{\"pointer\":\"/data/id\"},\"status\":\"409\",\"title\":\"Id does not match\"}]}")
unfolding requests_on_literals
update_of_other = refl

set_comments : planned blog (message (codes "PATCH") (codes "/articles/1/relationships/comments") (json_api ∷ []) (codes "{\"data\":[]}")) ≡ Run (task.Change (SetLinks (record { named = named.Id (record { kind = 0; id = codes "1" }); place = stands.Plain }) 1 [] ∷ []) reply_form.Empty)
unfolding requests_on_literals
set_comments = refl

-- ---- the order: target, path, method, Content-Type, Accept, query, body

path_before_method : planned blog (message (codes "PUT") (codes "/tags") ([]) []) ≡ fixed 404 allow.Nothing (codes "{\"errors\":[{\"code\":\"not-found\",\"status\":\"404\",\"title\":\"Not found\"}]}")
unfolding requests_on_literals
path_before_method = refl

method_before_type : planned blog (message (codes "PATCH") (codes "/people") (field (codes "Content-Type") (codes "application/vnd.api+json; charset=utf-8") ∷ []) []) ≡ fixed 405 allow.Collection (codes "{\"errors\":[{\"code\":\"method-not-allowed\",\"status\":\"405\",\"title\":\"Method not allowed\"}]}")
unfolding requests_on_literals
method_before_type = refl

get_of_list : planned blog (message (codes "GET") (codes "/operations") ([]) []) ≡ fixed 405 allow.Operations (codes "{\"errors\":[{\"code\":\"method-not-allowed\",\"status\":\"405\",\"title\":\"Method not allowed\"}]}")
unfolding requests_on_literals
get_of_list = refl

post_to_related : planned blog (message (codes "POST") (codes "/articles/1/comments") (json_api ∷ []) (codes "{")) ≡ fixed 405 allow.Related (codes "{\"errors\":[{\"code\":\"method-not-allowed\",\"status\":\"405\",\"title\":\"Method not allowed\"}]}")
unfolding requests_on_literals
post_to_related = refl

type_before_accept : planned blog (message (codes "POST") (codes "/people") (field (codes "Accept") (codes "application/vnd.api+json; x=1") ∷ []) (codes "{")) ≡ fixed 415 allow.Nothing (codes "{\"errors\":[{\"code\":\"unsupported-media-type\",\"source\":{\"header\":\"Content-Type\"},\"status\":\"415\",\"title\":\"Unsupported media type\"}]}")
unfolding requests_on_literals
type_before_accept = refl

accept_before_query : planned blog (message (codes "POST") (codes "/people?x=1") (json_api ∷ field (codes "Accept") (codes "application/vnd.api+json; x=1") ∷ []) (codes "{")) ≡ fixed 406 allow.Nothing (codes "{\"errors\":[{\"code\":\"not-acceptable\",\"source\":{\"header\":\"Accept\"},\"status\":\"406\",\"title\":\"Not acceptable\"}]}")
unfolding requests_on_literals
accept_before_query = refl

query_of_get : planned blog (message (codes "GET") (codes "/people?sort=name&x") ([]) []) ≡ fixed 400 allow.Nothing (codes "{\"errors\":[{\"code\":\"unknown-parameter\",\"source\":{\"parameter\":\"x\"},\"status\":\"400\",\"title\":\"Unknown parameter\"}]}")
unfolding requests_on_literals
query_of_get = refl

query_of_list : planned blog (message (codes "POST") (codes "/operations?x=1") (field (codes "Content-Type") (codes "application/vnd.api+json; ext=\"https://jsonapi.org/ext/atomic\"") ∷ []) (codes "{")) ≡ fixed 400 allow.Nothing (codes "{\"errors\":[{\"code\":\"unknown-parameter\",\"source\":{\"parameter\":\"x\"},\"status\":\"400\",\"title\":\"Unknown parameter\"}]}")
unfolding requests_on_literals
query_of_list = refl

-- the body of a GET is no matter
get_with_body : planned blog (message (codes "GET") (codes "/people") ([]) (codes "{")) ≡ Run (task.Fetch (record { target = target.Collection 2; query = no_query }))
unfolding requests_on_literals
get_with_body = refl

methods_in_other_case : planned blog (message (codes "get") (codes "/people") ([]) []) ≡ fixed 405 allow.Collection (codes "{\"errors\":[{\"code\":\"method-not-allowed\",\"status\":\"405\",\"title\":\"Method not allowed\"}]}")
unfolding requests_on_literals
methods_in_other_case = refl

-- ---- bodies

root_no_object : planned blog (message (codes "POST") (codes "/people") (json_api ∷ []) (codes "[]")) ≡ fixed 400 allow.Nothing (codes "{\"errors\":[{\"code\":\"bad-document\",\"source\":{\"pointer\":\"\"},\"status\":\"400\",\"title\":\"Malformed document\"}]}")
unfolding requests_on_literals
root_no_object = refl

no_data_of_update : planned blog (message (codes "PATCH") (codes "/people/ann") (json_api ∷ []) (codes "{}")) ≡ fixed 400 allow.Nothing (codes "{\"errors\":[{\"code\":\"bad-document\",\"source\":{\"pointer\":\"\"},\"status\":\"400\",\"title\":\"Malformed document\"}]}")
unfolding requests_on_literals
no_data_of_update = refl

no_data_of_links : planned blog (message (codes "POST") (codes "/articles/1/relationships/comments") (json_api ∷ []) (codes "{}")) ≡ fixed 400 allow.Nothing (codes "{\"errors\":[{\"code\":\"bad-document\",\"source\":{\"pointer\":\"\"},\"status\":\"400\",\"title\":\"Malformed document\"}]}")
unfolding requests_on_literals
no_data_of_links = refl

no_json_of_list : planned blog (message (codes "POST") (codes "/operations") (field (codes "Content-Type") (codes "application/vnd.api+json; ext=\"https://jsonapi.org/ext/atomic\"") ∷ []) (codes "{")) ≡ fixed 400 allow.Nothing (codes "{\"errors\":[{\"code\":\"bad-json\",\"status\":\"400\",\"title\":\"Malformed JSON\"}]}")
unfolding requests_on_literals
no_json_of_list = refl

-- no method changes what a relationship leads to
change_of_related : change_of blog (codes "PATCH") [] (target.Related (record { kind = 0; id = codes "1" }) 1) ≡ Err (refusal code.MethodNotAllowed)
unfolding requests_on_literals
change_of_related = refl

-- only `/operations` is a list
operations_are_list : is_list_target target.Operations ≡ true
unfolding requests_on_literals
operations_are_list = refl

collection_is_no_list : is_list_target (target.Collection 0) ≡ false
unfolding requests_on_literals
collection_is_no_list = refl

linkage_is_no_list : is_list_target (target.Linkage (record { kind = 0; id = codes "1" }) 1) ≡ false
unfolding requests_on_literals
linkage_is_no_list = refl
