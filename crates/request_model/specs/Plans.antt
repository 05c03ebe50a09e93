-- The plan of a request: its reply, where its bytes decide it, or a task for the store.
use Rattle.std.specs.Prelude.{◌≡◌, ℕ, Bool, true, false, not, if◌then◌else◌, List, [], ◌∷◌, codes, Option, Some, None, Result, Ok, Err, ⊤}
use Rattle.std.specs.Option.{ok_or}
use Rattle.std.specs.Str.{bytes_eq}
use Rattle.serde_json.specs.Data.{Data}
use Rattle.serde_json.specs.Find.{get}
use Rattle.ident_rules.specs.declared.key.Key.{Key}
use Rattle.resource_schema.specs.declared.schema.Schema.{Schema}
use Rattle.http_messages.specs.declared.messages.Message.{Message}
use Rattle.request_model.specs.declared.forms.ContentVerdict.{ContentVerdict}
use Rattle.request_model.specs.declared.forms.ContentVerdict.TheVariants.{Good, BadType, BadEncoding}
use Rattle.task_forms.specs.declared.operations.Named.TheVariants as named
use Rattle.task_forms.specs.declared.operations.Where.TheVariants as stands
use Rattle.task_forms.specs.declared.operations.Who.{Who}
use Rattle.task_forms.specs.declared.operations.Member.{Member}
use Rattle.resource_schema.specs.declared.targets.Target.{Target}
use Rattle.resource_schema.specs.declared.targets.Target.TheVariants as target
use Rattle.task_forms.specs.declared.operations.Operation.{Operation}
use Rattle.task_forms.specs.declared.operations.Operation.TheVariants.{Remove, SetLinks, AddLinks, DropLinks}
use Rattle.task_forms.specs.declared.tasks.ReplyForm.{ReplyForm}
use Rattle.task_forms.specs.declared.tasks.ReplyForm.TheVariants as reply_form
use Rattle.task_forms.specs.declared.tasks.Task.{Task}
use Rattle.task_forms.specs.declared.tasks.Task.TheVariants as task
use Rattle.task_forms.specs.declared.tasks.Plan.{Plan}
use Rattle.task_forms.specs.declared.tasks.Plan.TheVariants.{Fixed, Run}
use Rattle.error_objects.specs.declared.codes.Code.TheVariants as code
use Rattle.error_objects.specs.declared.refusals.Refusal.{Refusal}
use Rattle.http_messages.specs.declared.messages.Allow.{Allow}
use Rattle.http_messages.specs.declared.messages.Reply.{Reply}
use Rattle.request_model.specs.Words.{result_map}
use Rattle.resource_schema.specs.SchemaRules.{is_one_of}
use Rattle.request_model.specs.Results.{◌>>=◌, ◌>>◌, err_if}
use Rattle.error_objects.specs.Refusals.{refusal, at_header, IsSourced}
use Rattle.json_forms.specs.Json.{json_of}
use Rattle.request_model.specs.Targets.{split_target, target_of_path, allow_of, allows, need_of}
use Rattle.request_model.specs.Negotiation.{content, acceptable}
use Rattle.request_model.specs.Queries.{pairs_of, query_of, no_parameter}
use Rattle.request_model.specs.Documents.{bad_document, create_of, update_of, linkage_from}
use Rattle.request_model.specs.OperationLists.{operations_of}
use Rattle.error_objects.specs.ErrorReply.{error_reply}

-- ---- bodies

-- the value of a body, which is a JSON text (RFC 8259)
abbrev pub body_value : List ℕ → Result Data Refusal
body_value bytes = ok_or (json_of bytes) (refusal code.BadJson)

-- the member `data` at the top (JSON:API 1.1, "Top Level")
abbrev pub primary_data : List ℕ → Result Data Refusal
primary_data bytes = do
  d ← body_value bytes
  ok_or (get (codes "data") d) (bad_document [])

-- ---- changes

-- the task of one operation
abbrev pub change : ReplyForm → Operation → Task
change form operation = task.Change (operation ∷ []) form

-- the resource that the path of the request names
abbrev pub by_path : Key → Who
by_path key = record { named = named.Id key; place = stands.Plain }

-- what a method does with the members of a relationship (JSON:API 1.1, "Updating Relationships")
abbrev pub links_operation : List ℕ → Who → ℕ → List Member → Operation
links_operation method who rel members =
    if bytes_eq method (codes "POST") then AddLinks who rel members
    else (if bytes_eq method (codes "DELETE") then DropLinks who rel members else SetLinks who rel members)

-- where primary data stands
abbrev pub data_pointer : List ℕ
data_pointer = codes "/data"

-- the task of PATCH on a resource (JSON:API 1.1, "Updating Resources")
abbrev pub update_task : Schema → Key → List ℕ → Result Task Refusal
update_task schema key body = do
  d ← primary_data body
  operation ← update_of schema (Some (by_path key)) data_pointer d
  Ok (change reply_form.Updated operation)

-- the task of a method that is neither GET nor HEAD
abbrev pub change_of : Schema → List ℕ → List ℕ → Target → Result Task Refusal
change_of schema method body (target.Collection kind) = do
  d ← primary_data body
  operation ← create_of schema (Some kind) data_pointer d
  Ok (change reply_form.Created operation)
change_of schema method body (target.Resource key) =
    if bytes_eq method (codes "DELETE") then Ok (change reply_form.Empty (Remove (by_path key))) else update_task schema key body
change_of schema method body (target.Related key rel) = Err (refusal code.MethodNotAllowed)
change_of schema method body (target.Linkage key rel) = do
  d ← primary_data body
  members ← linkage_from schema key.kind rel data_pointer d
  Ok (change reply_form.Empty (links_operation method (by_path key) rel members))
change_of schema method body target.Operations = do
  d ← body_value body
  operations ← operations_of schema d
  Ok (task.Change operations reply_form.Results)

-- ---- the order in which a request is judged

-- the refusal of fields that describe the content wrongly (JSON:API 1.1, "Server Responsibilities")
abbrev pub judged : ContentVerdict → Result ⊤ Refusal
judged Good = Ok tt
judged BadType = Err (at_header code.UnsupportedMediaType (codes "Content-Type"))
judged BadEncoding = Err (at_header code.UnsupportedMediaType (codes "Content-Encoding"))

-- GET and HEAD (JSON:API 1.1, "Fetching Data")
abbrev pub is_fetch : List ℕ → Bool
is_fetch method = is_one_of (codes "GET" ∷ codes "HEAD" ∷ []) method

-- go on where there is no refusal
abbrev pub none_or_err : Option Refusal → Result ⊤ Refusal
none_or_err None = Ok tt
none_or_err (Some r) = Err r

-- the task of GET and HEAD
abbrev pub fetch_of : Schema → Target → List ℕ → Result Task Refusal
fetch_of schema t query = result_map (λ q. task.Fetch (record { target = t; query = q })) (query_of schema t query)

-- the task of another method, which knows no query parameter
abbrev pub change_without_query : Schema → List ℕ → List ℕ → Target → List ℕ → Result Task Refusal
change_without_query schema method body t query = do
  none_or_err (no_parameter (pairs_of query))
  change_of schema method body t

-- negotiation, then the query, then the body
abbrev pub task_of : Schema → Message → Target → List ℕ → Result Task Refusal
task_of schema m t query = do
  judged (content m.fields (need_of (allow_of schema t) m.method))
  err_if (not (acceptable m.fields)) (at_header code.NotAcceptable (codes "Accept"))
  if is_fetch m.method then fetch_of schema t query else change_without_query schema m.method m.body t query

-- the request is a list of operations
abbrev pub is_list_target : Target → Bool
is_list_target target.Operations = true
is_list_target _ = false

-- a refusal as a reply
abbrev pub or_reply : {A : Type 0} → Result A Refusal → Result A Reply
or_reply (Ok x) = Ok x
or_reply (Err r) = Err (error_reply r)

-- the reply to a method that the target does not answer (RFC 9110, section 15.5.6)
abbrev pub not_allowed : Allow → Reply
not_allowed a = record (error_reply (refusal code.MethodNotAllowed)) { allow = a }

-- target, path and method, then the rest (the order is of this project)
abbrev pub task_or_reply : Schema → Message → Result Task Reply
task_or_reply schema m = do
  parts ← or_reply (ok_or (split_target m.target) (refusal code.BadTarget))
  t ← or_reply (ok_or (target_of_path schema parts.0) (refusal code.NotFound))
  err_if (not (allows (allow_of schema t) m.method)) (not_allowed (allow_of schema t))
  or_reply (task_of schema m t parts.1)

-- the plan of a task, or of a reply that is fixed
abbrev pub plan_by : Result Task Reply → Plan
plan_by (Ok t) = Run t
plan_by (Err reply) = Fixed reply

-- the plan of a message, in a schema
abbrev pub planned : Schema → Message → Plan
planned schema m = plan_by (task_or_reply schema m)

-- a refusal of a request to a target names the source that its code asks for
abbrev pub NamesItsSource : Schema → Message → Target → List ℕ → Type 0
NamesItsSource schema message target query = (refusal : Refusal) → task_of schema message target query ≡ Err refusal → IsSourced (is_list_target target) refusal
