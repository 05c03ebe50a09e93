-- The reply to a task, and the world that it leaves (JSON:API 1.1, "Fetching Data" and "Creating, Updating and Deleting Resources"; Atomic Operations extension, "Processing").
use Rattle.std.specs.Prelude.{if◌then◌else◌, ℕ, Bool, true, false, List, [], ◌∷◌, map, Some, None, Option, Result, Ok, Err, codes, option_map}
use Rattle.std.specs.Option.{option_map_or}
use Rattle.std.specs.List.{list_any, zip}
use Rattle.serde_json.specs.Data.{Data, array}
use Rattle.serde_json.specs.View.{items_of}
use Rattle.serde_json.specs.Written.{compact_text}
use Rattle.http_messages.specs.declared.messages.Allow.TheVariants as allow
use Rattle.http_messages.specs.declared.messages.Content.{Content}
use Rattle.http_messages.specs.declared.messages.Content.TheVariants as content
use Rattle.http_messages.specs.declared.messages.Reply.{Reply}
use Rattle.resource_schema.specs.declared.schema.Schema.{Schema}
use Rattle.resource_schema.specs.declared.targets.Target.{Target}
use Rattle.resource_schema.specs.declared.targets.Target.TheVariants as target
use Rattle.resource_schema.specs.Kinds.{is_many}
use Rattle.world_cells.specs.declared.rows.Row.{Row}
use Rattle.world_cells.specs.World.{World}
use Rattle.error_objects.specs.declared.codes.Code.TheVariants as code
use Rattle.error_objects.specs.declared.refusals.Refusal.{Refusal}
use Rattle.error_objects.specs.Refusals.{refusal}
use Rattle.error_objects.specs.ErrorReply.{only, error_reply}
use Rattle.task_forms.specs.declared.operations.Operation.{Operation}
use Rattle.task_forms.specs.declared.operations.Operation.TheVariants.{Create, Update, Remove, SetLinks, AddLinks, DropLinks}
use Rattle.task_forms.specs.declared.tasks.Fetch.{Fetch}
use Rattle.task_forms.specs.declared.tasks.ReplyForm.{ReplyForm}
use Rattle.task_forms.specs.declared.tasks.ReplyForm.TheVariants as reply_form
use Rattle.task_forms.specs.declared.tasks.Task.{Task}
use Rattle.task_forms.specs.declared.tasks.Task.TheVariants as task
use Rattle.store_model.specs.Run.{Ran, run}
use Rattle.store_model.specs.Resource.{object_of, resource, resource_path}
use Rattle.store_model.specs.Document.{document}

-- ---- fetches

-- collections and to-many relationships are answered by pages (Cursor Pagination profile)
abbrev pub target_content : Schema → Target → Content
target_content schema (target.Collection kind) = content.Page
target_content schema (target.Resource key) = content.Plain
target_content schema (target.Related key rel) = if is_many schema key.kind rel then content.Page else content.Plain
target_content schema (target.Linkage key rel) = content.Plain
target_content schema target.Operations = content.Plain

-- the reply with a document
abbrev pub ok_reply : Content → Data → Reply
ok_reply c d = record { status = 200; content = c; location = None; allow = allow.Nothing; body = compact_text d }

-- without a document, not-found
abbrev pub document_reply : Content → Option Data → Reply
document_reply c None = error_reply (refusal code.NotFound)
document_reply c (Some d) = ok_reply c d

abbrev pub fetch_reply : Schema → World → Fetch → Reply
fetch_reply schema w fetch = document_reply (target_content schema fetch.target) (document schema w fetch)

-- ---- changes

abbrev pub empty_reply : Reply
empty_reply = record { status = 204; content = content.Nothing; location = None; allow = allow.Nothing; body = [] }

-- a document with one resource, all of whose fields are shown
abbrev pub row_data : Schema → Row → Data
row_data schema row = only (codes "data") (resource schema row [])

-- the row of the one operation of a plain request
abbrev pub first_of_rows : List (Option Row) → Option Row
first_of_rows [] = None
first_of_rows (r ∷ rows) = r

abbrev pub row_body : Schema → Option Row → List ℕ
row_body schema row = option_map_or (λ r. compact_text (row_data schema r)) row []

-- 201 with the new resource and its path ("Creating Resources")
abbrev pub created_reply : Schema → Option Row → Reply
created_reply schema row = record { status = 201; content = content.Plain; location = option_map (λ r. resource_path schema r.key) row; allow = allow.Nothing; body = row_body schema row }

-- 200 with the resource ("Updating Resources")
abbrev pub updated_reply : Schema → Option Row → Reply
updated_reply schema row = record { status = 200; content = content.Plain; location = None; allow = allow.Nothing; body = row_body schema row }

abbrev pub is_create : Operation → Bool
is_create (Create kind id lid values links) = true
is_create (Update who values links) = false
is_create (Remove who) = false
is_create (SetLinks who rel members) = false
is_create (AddLinks who rel members) = false
is_create (DropLinks who rel members) = false

-- the result of one operation of a list: the row of a Create, as it then was ("Result Objects")
abbrev pub result_data : Schema → Bool → Option Row → Data
result_data schema true (Some row) = row_data schema row
result_data schema true None = object_of []
result_data schema false row = object_of []

abbrev pub results_data : Schema → List Operation → List (Option Row) → Data
results_data schema operations rows = only (codes "atomic:results") (array (items_of (map (λ o. result_data schema (is_create o.0) o.1) (zip operations rows))))

-- a list is answered by a document where one of its operations is a Create ("Processing Results")
abbrev pub results_reply : Bool → Data → Reply
results_reply true d = ok_reply content.Atomic d
results_reply false d = empty_reply

abbrev pub done_reply : Schema → ReplyForm → List Operation → List (Option Row) → Reply
done_reply schema reply_form.Created operations rows = created_reply schema (first_of_rows rows)
done_reply schema reply_form.Updated operations rows = updated_reply schema (first_of_rows rows)
done_reply schema reply_form.Empty operations rows = empty_reply
done_reply schema reply_form.Results operations rows = results_reply (list_any is_create operations) (results_data schema operations rows)

abbrev pub run_reply : Schema → ReplyForm → List Operation → Result Ran Refusal → Reply
run_reply schema form operations (Ok ran) = done_reply schema form operations ran.rows
run_reply schema form operations (Err r) = error_reply r

-- a refused list leaves the world as it was
abbrev pub run_world : World → Result Ran Refusal → World
run_world w (Ok ran) = ran.world
run_world w (Err r) = w

-- ---- tasks

-- the reply to a task in a world
abbrev pub answer : Schema → World → Task → Reply
answer schema w (task.Fetch fetch) = fetch_reply schema w fetch
answer schema w (task.Change operations form) = run_reply schema form operations (run schema form w operations)

-- the world after a task
abbrev pub effect : Schema → World → Task → World
effect schema w (task.Fetch fetch) = w
effect schema w (task.Change operations form) = run_world w (run schema form w operations)
