-- Computed examples: lists of operations, pages and documents.
use Rattle.std.specs.Prelude.{◌≡◌, ℕ, List, [], ◌∷◌, true, false, Some, None, Result, Ok, Err, codes, refl, pos}
use Rattle.std.specs.Fmt.{digits}
use Rattle.resource_schema.specs.declared.schema.Schema.{Schema}
use Rattle.resource_schema.specs.declared.values.Form.TheVariants as form
use Rattle.resource_schema.specs.declared.values.AttrValue.TheVariants as value
use Rattle.world_cells.specs.declared.rows.Link.TheVariants.{One, Many}
use Rattle.world_cells.specs.declared.keys.CellKey.TheVariants as cell_key
use Rattle.world_cells.specs.declared.cells.Cell.TheVariants as cell
use Rattle.task_forms.specs.Queries.{no_query}
use Rattle.task_forms.specs.declared.operations.Named.TheVariants as named
use Rattle.task_forms.specs.declared.operations.Where.TheVariants as stands
use Rattle.task_forms.specs.declared.operations.Operation.{Operation}
use Rattle.task_forms.specs.declared.operations.Operation.TheVariants.{Create, AddLinks}
use Rattle.error_objects.specs.declared.codes.Code.TheVariants as code
use Rattle.error_objects.specs.declared.refusals.Blame.TheVariants as blame
use Rattle.task_forms.specs.declared.tasks.ReplyForm.TheVariants as reply_form
use Rattle.task_forms.specs.declared.queries.Page.{Page}
use Rattle.task_forms.specs.declared.tasks.Task.{Task}
use Rattle.task_forms.specs.declared.tasks.Task.TheVariants as task
use Rattle.resource_schema.specs.declared.targets.Target.TheVariants as target
use Rattle.http_messages.specs.declared.messages.Content.TheVariants as content
use Rattle.http_messages.specs.declared.messages.Allow.TheVariants as allow
use Rattle.json.specs.Print.{escape_byte}
use Rattle.form_urlencoded.proofs.OnLiterals.{form_urlencoded_on_literals}
use Rattle.base64.proofs.OnLiterals.{base64_on_literals}
use Rattle.store_model.specs.Answer.{answer, effect}
use Rattle.world_cells.specs.World.{World, empty_world, cell_at}
use Rattle.store_model.specs.Run.{Ran, run}
use Rattle.error_objects.specs.declared.refusals.Refusal.{Refusal}
use Rattle.resource_schema.specs.Kinds.{to_one, to_many, notes}

abbrev pub blog : Schema
blog =
    record {
      name = codes "articles";
      client_ids = false;
      attributes = record { name = codes "draft"; form = form.Bool; nullable = true; default = None } ∷ record { name = codes "title"; form = form.Text; nullable = false; default = None } ∷ record { name = codes "views"; form = form.Int; nullable = false; default = Some (value.Int (pos 0)) } ∷ [];
      relationships = to_one (codes "author") 2 ∷ to_many (codes "comments") 1 ∷ [];
    }
    ∷ record { name = codes "comments"; client_ids = false; attributes = record { name = codes "text"; form = form.Text; nullable = false; default = None } ∷ []; relationships = to_one (codes "author") 2 ∷ [] }
    ∷ record { name = codes "people"; client_ids = true; attributes = record { name = codes "name"; form = form.Text; nullable = false; default = None } ∷ []; relationships = [] }
    ∷ []

abbrev comment : List ℕ → Operation
comment text = Create 1 None None (value.Text text ∷ []) []

abbrev pub with_comment : Result Ran Refusal
with_comment = run blog reply_form.Created empty_world (comment (codes "c") ∷ [])

abbrev pub world_of : Result Ran Refusal → World
world_of (Ok ran) = ran.world
world_of (Err e) = empty_world

abbrev pub list_with : List ℕ → List Operation
list_with comment_id =
    Create 2 None (Some (codes "p")) (value.Text (codes "Ann") ∷ []) []
    ∷ Create 0 None (Some (codes "a")) (value.Null ∷ value.Text (codes "T") ∷ value.Int (pos 0) ∷ []) ((0, record { named = named.Lid 2 (codes "p"); index = None } ∷ []) ∷ [])
    ∷ AddLinks (record { named = named.Lid 0 (codes "a"); place = stands.Ref }) 1 (record { named = named.Id (record { kind = 1; id = comment_id }); index = Some 0 } ∷ [])
    ∷ []

-- a member that no row has: the pointer names it, in the third operation
refused_member : run blog reply_form.Results (world_of with_comment) (list_with (codes "9")) ≡ Err (record { code = code.RelatedNotFound; blame = blame.Pointer (codes "/atomic:operations/2/data/0/id") })
unfolding digits escape_byte
refused_member = refl

-- the article as it is after its own operation has no comment yet
done_list : run blog reply_form.Results (world_of with_comment) (list_with (codes "1")) ≡ Ok (record {
  world = record {
    rows =
        (record { kind = 0; id = codes "1" }, record { key = record { kind = 0; id = codes "1" }; values = value.Null ∷ value.Text (codes "T") ∷ value.Int (pos 0) ∷ []; links = One (Some (codes "1")) ∷ Many (codes "1" ∷ []) ∷ [] })
        ∷ (record { kind = 1; id = codes "1" }, record { key = record { kind = 1; id = codes "1" }; values = value.Text (codes "c") ∷ []; links = One None ∷ [] })
        ∷ (record { kind = 2; id = codes "1" }, record { key = record { kind = 2; id = codes "1" }; values = value.Text (codes "Ann") ∷ []; links = [] })
        ∷ [];
    counters = (0, 2) ∷ (1, 2) ∷ (2, 2) ∷ [];
  };
  rows =
      Some (record { key = record { kind = 2; id = codes "1" }; values = value.Text (codes "Ann") ∷ []; links = [] })
      ∷ Some (record { key = record { kind = 0; id = codes "1" }; values = value.Null ∷ value.Text (codes "T") ∷ value.Int (pos 0) ∷ []; links = One (Some (codes "1")) ∷ Many [] ∷ [] })
      ∷ None
      ∷ [];
})
unfolding digits escape_byte
done_list = refl

-- ---- pages and documents

abbrev pub note : Operation
note = Create 0 None None (value.Text (codes "hello") ∷ []) []

abbrev pub no_cursors : ℕ → Page
no_cursors n = record { size = n; after = None; before = None }

abbrev pub page_of_notes : List (List ℕ × List ℕ) → Page → Task
page_of_notes pairs page = task.Fetch (record { target = target.Collection 0; query = record no_query { pairs = pairs; page = page } })

abbrev pub three_notes : World
three_notes = effect notes empty_world (task.Change (note ∷ note ∷ note ∷ []) reply_form.Results)

n1 : (answer notes empty_world (task.Change (note ∷ []) reply_form.Created)).body ≡ codes "{\"data\":{\"attributes\":{\"text\":\"hello\"},\"id\":\"1\",\"links\":{\"self\":\"/notes/1\"},\"type\":\"notes\"}}"
unfolding digits escape_byte
n1 = refl

first_page : (answer notes three_notes (page_of_notes ((codes "page[size]", codes "2") ∷ []) (no_cursors 2))).body
    ≡ codes "{\"data\":[{\"attributes\":{\"text\":\"hello\"},\"id\":\"1\",\"links\":{\"self\":\"/notes/1\"},\"type\":\"notes\"},{\"attributes\":{\"text\":\"hello\"},\"id\":\"2\",\"links\":{\"self\":\"/notes/2\"},\"type\":\"notes\"}],\"links\":{\"next\":\"/notes?page%5Bafter%5D=WyIyIl0&page%5Bsize%5D=2\",\"prev\":null}}"
unfolding digits escape_byte form_urlencoded_on_literals base64_on_literals
first_page = refl

empty_page : answer notes empty_world (page_of_notes [] (no_cursors 50)) ≡ record { status = 200; content = content.Page; location = None; allow = allow.Nothing; body = codes "{\"data\":[],\"links\":{\"next\":null,\"prev\":null}}" }
unfolding digits escape_byte
empty_page = refl

no_note : (answer notes empty_world (task.Fetch (record { target = target.Resource (record { kind = 0; id = codes "7" }); query = no_query }))).body
    ≡ codes "{\"errors\":[{\"code\":\"not-found\",\"status\":\"404\",\"title\":\"Not found\"}]}"
unfolding digits escape_byte
no_note = refl

abbrev pub after_list : World
after_list = effect blog (world_of with_comment) (task.Change (list_with (codes "1")) reply_form.Results)

-- sparse fields do not change what is included
sparse : (answer blog after_list (task.Fetch (record { target = target.Resource (record { kind = 0; id = codes "1" }); query = record no_query { include = Some (record { rels = 0 ∷ [] } ∷ []); fields = (0, codes "title" ∷ []) ∷ [] } }))).body
    ≡ codes "{\"data\":{\"attributes\":{\"title\":\"T\"},\"id\":\"1\",\"links\":{\"self\":\"/articles/1\"},\"type\":\"articles\"},\"included\":[{\"attributes\":{\"name\":\"Ann\"},\"id\":\"1\",\"links\":{\"self\":\"/people/1\"},\"type\":\"people\"}]}"
unfolding digits escape_byte
sparse = refl

-- the first key after a comment that is linked: a back cell is there, and it leads to the comment
linked_comment : cell_at blog after_list (cell_key.Back (record { kind = 1; id = codes "1" }) (record { kind = 0; id = codes "1" }) 1) ≡ Some cell.Back
unfolding digits escape_byte
linked_comment = refl
