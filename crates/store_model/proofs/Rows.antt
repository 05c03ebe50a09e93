-- More computed examples: including, relationships, loops, pages, lists, refusals and reach.
use Rattle.std.specs.Prelude.{◌≡◌, ℕ, ◌+◌, Bool, List, [], ◌∷◌, true, false, Some, None, codes, map, pos, decimal}
use Rattle.std.proofs.Common.{refl}
use Rattle.std.specs.Fmt.{digits}
use Rattle.std.specs.List.{range_with_len}
use Rattle.ident_rules.specs.declared.key.Key.{Key}
use Rattle.resource_schema.specs.declared.schema.Schema.{Schema}
use Rattle.resource_schema.specs.declared.values.AttrValue.{AttrValue}
use Rattle.resource_schema.specs.declared.values.AttrValue.TheVariants as value
use Rattle.resource_schema.specs.declared.values.Place.{Place}
use Rattle.world_cells.specs.declared.rows.Link.TheVariants.{One, Many}
use Rattle.world_cells.specs.declared.keys.CellKey.TheVariants as cell_key
use Rattle.world_cells.specs.declared.cells.Cell.TheVariants as cell
use Rattle.world_cells.specs.declared.spans.Span.TheVariants as span
use Rattle.world_cells.specs.declared.spans.Edge.TheVariants as edge
use Rattle.task_forms.specs.Queries.{no_query}
use Rattle.task_forms.specs.declared.operations.Named.TheVariants as named
use Rattle.task_forms.specs.declared.operations.Where.TheVariants as stands
use Rattle.task_forms.specs.declared.operations.Who.{Who}
use Rattle.task_forms.specs.declared.operations.Member.{Member}
use Rattle.task_forms.specs.declared.queries.Path.{Path}
use Rattle.task_forms.specs.declared.queries.SortKey.{SortKey}
use Rattle.task_forms.specs.declared.operations.Operation.{Operation}
use Rattle.task_forms.specs.declared.operations.Operation.TheVariants.{Create, Update, Remove, SetLinks, AddLinks, DropLinks}
use Rattle.task_forms.specs.declared.tasks.ReplyForm.TheVariants as reply_form
use Rattle.task_forms.specs.declared.tasks.Task.{Task}
use Rattle.task_forms.specs.declared.tasks.Task.TheVariants as task
use Rattle.resource_schema.specs.declared.targets.Target.TheVariants as target
use Rattle.http_messages.specs.declared.messages.Content.TheVariants as content
use Rattle.http_messages.specs.declared.messages.Allow.TheVariants as allow
use Rattle.json.specs.Print.{escape_byte}
use Rattle.form_urlencoded.proofs.OnLiterals.{form_urlencoded_on_literals}
use Rattle.base64.proofs.OnLiterals.{base64_on_literals}
use Rattle.world_cells.specs.World.{World, empty_world, cell_at}
use Rattle.store_model.specs.declared.pages.Selected.{Selected}
use Rattle.store_model.specs.Pages.{page_of, rows_of}
use Rattle.world_cells.specs.Reads.{covers}
use Rattle.store_model.specs.Reach.{reach}
use Rattle.store_model.specs.Answer.{answer, effect, empty_reply}
use Rattle.store_model.proofs.Examples.{blog, no_cursors, note, page_of_notes, three_notes}
use Rattle.resource_schema.specs.Kinds.{to_one, to_many, notes}
use Rattle.http_messages.specs.declared.messages.Reply.{Reply}

-- ---- short forms

abbrev pub key_at : ℕ → List ℕ → Key
key_at kind id = record { kind = kind; id = id }

abbrev pub named_by : ℕ → List ℕ → Who
named_by kind id = record { named = named.Id (key_at kind id); place = stands.Plain }

abbrev pub member_of : ℕ → ℕ → List ℕ → Member
member_of kind index id = record { named = named.Id (key_at kind id); index = Some index }

-- the one member of a to-one relationship
abbrev pub one_member_of : ℕ → List ℕ → List Member
one_member_of kind id = record { named = named.Id (key_at kind id); index = None } ∷ []

abbrev pub path_of : List ℕ → Path
path_of rels = record { rels = rels }

abbrev pub person : List ℕ → List ℕ → Operation
person id name = Create 2 (Some id) None (value.Text name ∷ []) []

abbrev pub article : List ℕ → List (ℕ × List Member) → Operation
article title links = Create 0 None None (value.Null ∷ value.Text title ∷ value.Int (pos 0) ∷ []) links

abbrev pub draft_of : AttrValue → Operation
draft_of draft = Create 0 None None (draft ∷ value.Text (codes "T") ∷ value.Int (pos 0) ∷ []) []

abbrev pub node : List ℕ → Operation
node id = Create 0 (Some id) None [] []

-- ---- including

-- people ann and bob, comments 1 by ann and 2 by bob, and article 1 by ann with both comments
abbrev pub blog_with_people : World
blog_with_people = effect blog empty_world (task.Change (
    person (codes "ann") (codes "Ann")
    ∷ person (codes "bob") (codes "Bob")
    ∷ Create 1 None None (value.Text (codes "c1") ∷ []) ((0, one_member_of 2 (codes "ann")) ∷ [])
    ∷ Create 1 None None (value.Text (codes "c2") ∷ []) ((0, one_member_of 2 (codes "bob")) ∷ [])
    ∷ article (codes "T") ((0, one_member_of 2 (codes "ann")) ∷ (1, member_of 1 0 (codes "1") ∷ member_of 1 1 (codes "2") ∷ []) ∷ [])
    ∷ []) reply_form.Results)

-- one object for ann, though two paths reach her
included_rows : (answer blog blog_with_people (task.Fetch (record { target = target.Resource (key_at 0 (codes "1")); query = record no_query { include = Some (path_of (0 ∷ []) ∷ path_of (1 ∷ 0 ∷ []) ∷ []) } }))).body ≡ codes "{\"data\":{\"attributes\":{\"draft\":null,\"title\":\"T\",\"views\":0},\"id\":\"1\",\"links\":{\"self\":\"/articles/1\"},\"relationships\":{\"author\":{\"data\":{\"id\":\"ann\",\"type\":\"people\"},\"links\":{\"related\":\"/articles/1/author\",\"self\":\"/articles/1/relationships/author\"}},\"comments\":{\"data\":[{\"id\":\"1\",\"type\":\"comments\"},{\"id\":\"2\",\"type\":\"comments\"}],\"links\":{\"related\":\"/articles/1/comments\",\"self\":\"/articles/1/relationships/comments\"}}},\"type\":\"articles\"},\"included\":[{\"attributes\":{\"text\":\"c1\"},\"id\":\"1\",\"links\":{\"self\":\"/comments/1\"},\"relationships\":{\"author\":{\"data\":{\"id\":\"ann\",\"type\":\"people\"},\"links\":{\"related\":\"/comments/1/author\",\"self\":\"/comments/1/relationships/author\"}}},\"type\":\"comments\"},{\"attributes\":{\"text\":\"c2\"},\"id\":\"2\",\"links\":{\"self\":\"/comments/2\"},\"relationships\":{\"author\":{\"data\":{\"id\":\"bob\",\"type\":\"people\"},\"links\":{\"related\":\"/comments/2/author\",\"self\":\"/comments/2/relationships/author\"}}},\"type\":\"comments\"},{\"attributes\":{\"name\":\"Ann\"},\"id\":\"ann\",\"links\":{\"self\":\"/people/ann\"},\"type\":\"people\"},{\"attributes\":{\"name\":\"Bob\"},\"id\":\"bob\",\"links\":{\"self\":\"/people/bob\"},\"type\":\"people\"}]}"
unfolding digits escape_byte
included_rows = refl

-- an empty include is given, and reaches nothing
included_of_nothing : (answer blog blog_with_people (task.Fetch (record { target = target.Resource (key_at 0 (codes "1")); query = record no_query { include = Some ([]) } }))).body ≡ codes "{\"data\":{\"attributes\":{\"draft\":null,\"title\":\"T\",\"views\":0},\"id\":\"1\",\"links\":{\"self\":\"/articles/1\"},\"relationships\":{\"author\":{\"data\":{\"id\":\"ann\",\"type\":\"people\"},\"links\":{\"related\":\"/articles/1/author\",\"self\":\"/articles/1/relationships/author\"}},\"comments\":{\"data\":[{\"id\":\"1\",\"type\":\"comments\"},{\"id\":\"2\",\"type\":\"comments\"}],\"links\":{\"related\":\"/articles/1/comments\",\"self\":\"/articles/1/relationships/comments\"}}},\"type\":\"articles\"},\"included\":[]}"
unfolding digits escape_byte
included_of_nothing = refl

-- a page of a to-many relationship
included_of_page : (answer blog blog_with_people (task.Fetch (record { target = target.Related (key_at 0 (codes "1")) 1; query = record no_query { include = Some (path_of (0 ∷ []) ∷ []) } }))).body ≡ codes "{\"data\":[{\"attributes\":{\"text\":\"c1\"},\"id\":\"1\",\"links\":{\"self\":\"/comments/1\"},\"relationships\":{\"author\":{\"data\":{\"id\":\"ann\",\"type\":\"people\"},\"links\":{\"related\":\"/comments/1/author\",\"self\":\"/comments/1/relationships/author\"}}},\"type\":\"comments\"},{\"attributes\":{\"text\":\"c2\"},\"id\":\"2\",\"links\":{\"self\":\"/comments/2\"},\"relationships\":{\"author\":{\"data\":{\"id\":\"bob\",\"type\":\"people\"},\"links\":{\"related\":\"/comments/2/author\",\"self\":\"/comments/2/relationships/author\"}}},\"type\":\"comments\"}],\"included\":[{\"attributes\":{\"name\":\"Ann\"},\"id\":\"ann\",\"links\":{\"self\":\"/people/ann\"},\"type\":\"people\"},{\"attributes\":{\"name\":\"Bob\"},\"id\":\"bob\",\"links\":{\"self\":\"/people/bob\"},\"type\":\"people\"}],\"links\":{\"next\":null,\"prev\":null}}"
unfolding digits escape_byte
included_of_page = refl

-- no field is shown, and what the hidden relationship reaches is included
no_fields : (answer blog blog_with_people (task.Fetch (record { target = target.Resource (key_at 0 (codes "1")); query = record no_query { include = Some (path_of (0 ∷ []) ∷ []); fields = (0, []) ∷ [] } }))).body ≡ codes "{\"data\":{\"id\":\"1\",\"links\":{\"self\":\"/articles/1\"},\"type\":\"articles\"},\"included\":[{\"attributes\":{\"name\":\"Ann\"},\"id\":\"ann\",\"links\":{\"self\":\"/people/ann\"},\"type\":\"people\"}]}"
unfolding digits escape_byte
no_fields = refl

-- each type has its own field set
two_field_sets : (answer blog blog_with_people (task.Fetch (record { target = target.Resource (key_at 0 (codes "1")); query = record no_query { include = Some (path_of (0 ∷ []) ∷ path_of (1 ∷ []) ∷ []); fields = (0, (codes "title") ∷ []) ∷ (1, (codes "author") ∷ []) ∷ [] } }))).body ≡ codes "{\"data\":{\"attributes\":{\"title\":\"T\"},\"id\":\"1\",\"links\":{\"self\":\"/articles/1\"},\"type\":\"articles\"},\"included\":[{\"id\":\"1\",\"links\":{\"self\":\"/comments/1\"},\"relationships\":{\"author\":{\"data\":{\"id\":\"ann\",\"type\":\"people\"},\"links\":{\"related\":\"/comments/1/author\",\"self\":\"/comments/1/relationships/author\"}}},\"type\":\"comments\"},{\"id\":\"2\",\"links\":{\"self\":\"/comments/2\"},\"relationships\":{\"author\":{\"data\":{\"id\":\"bob\",\"type\":\"people\"},\"links\":{\"related\":\"/comments/2/author\",\"self\":\"/comments/2/relationships/author\"}}},\"type\":\"comments\"},{\"attributes\":{\"name\":\"Ann\"},\"id\":\"ann\",\"links\":{\"self\":\"/people/ann\"},\"type\":\"people\"}]}"
unfolding digits escape_byte
two_field_sets = refl

linkage_many : (answer blog blog_with_people (task.Fetch (record { target = target.Linkage (key_at 0 (codes "1")) 1; query = no_query }))).body ≡ codes "{\"data\":[{\"id\":\"1\",\"type\":\"comments\"},{\"id\":\"2\",\"type\":\"comments\"}]}"
unfolding digits escape_byte
linkage_many = refl

-- ---- relationships

-- a person ann, and article 1 by ann
abbrev pub by_ann : World
by_ann = effect blog empty_world (task.Change (person (codes "ann") (codes "Ann") ∷ article (codes "T") ((0, one_member_of 2 (codes "ann")) ∷ []) ∷ []) reply_form.Results)

abbrev set_author : List Member → Task
set_author members = task.Change (SetLinks (named_by 0 (codes "1")) 0 members ∷ []) reply_form.Empty

abbrev remove_ann : Task
remove_ann = task.Change (Remove (named_by 2 (codes "ann")) ∷ []) reply_form.Empty

abbrev without_author : World
without_author = effect blog by_ann (set_author [])

abbrev without_ann : World
without_ann = effect blog without_author remove_ann

author : (answer blog by_ann (task.Fetch (record { target = target.Related (key_at 0 (codes "1")) 0; query = no_query }))).body ≡ codes "{\"data\":{\"attributes\":{\"name\":\"Ann\"},\"id\":\"ann\",\"links\":{\"self\":\"/people/ann\"},\"type\":\"people\"}}"
unfolding digits escape_byte
author = refl

-- an article leads to her
referenced : answer blog by_ann remove_ann ≡ record { status = 409; content = content.Plain; location = None; allow = allow.Nothing; body = codes "{\"errors\":[{\"code\":\"still-referenced\",\"status\":\"409\",\"title\":\"Resource is still referenced\"}]}" }
unfolding digits escape_byte
referenced = refl

referenced_stays : effect blog by_ann remove_ann ≡ by_ann
unfolding digits escape_byte
referenced_stays = refl

unlinked : answer blog by_ann (set_author []) ≡ empty_reply
unfolding digits escape_byte
unlinked = refl

-- an empty to-one relationship
no_author : (answer blog without_author (task.Fetch (record { target = target.Related (key_at 0 (codes "1")) 0; query = no_query }))).body ≡ codes "{\"data\":null}"
unfolding digits escape_byte
no_author = refl

no_author_included : (answer blog without_author (task.Fetch (record { target = target.Related (key_at 0 (codes "1")) 0; query = record no_query { include = Some ([]) } }))).body ≡ codes "{\"data\":null,\"included\":[]}"
unfolding digits escape_byte
no_author_included = refl

no_author_linkage : (answer blog without_author (task.Fetch (record { target = target.Linkage (key_at 0 (codes "1")) 0; query = no_query }))).body ≡ codes "{\"data\":null}"
unfolding digits escape_byte
no_author_linkage = refl

removed : answer blog without_author remove_ann ≡ empty_reply
unfolding digits escape_byte
removed = refl

no_such_author : answer blog without_ann (set_author (one_member_of 2 (codes "ann"))) ≡ record { status = 404; content = content.Plain; location = None; allow = allow.Nothing; body = codes "{\"errors\":[{\"code\":\"related-not-found\",\"source\":{\"pointer\":\"/data/id\"},\"status\":\"404\",\"title\":\"Related resource not found\"}]}" }
unfolding digits escape_byte
no_such_author = refl

-- article 1 with comments 1 and 2
abbrev pub with_comments : World
with_comments = effect blog empty_world (task.Change (
    Create 1 None None (value.Text (codes "c1") ∷ []) []
    ∷ Create 1 None None (value.Text (codes "c2") ∷ []) []
    ∷ article (codes "T") ((1, member_of 1 0 (codes "1") ∷ member_of 1 1 (codes "2") ∷ []) ∷ [])
    ∷ []) reply_form.Results)

abbrev add_comment : List ℕ → Task
add_comment id = task.Change (AddLinks (named_by 0 (codes "1")) 1 (member_of 1 0 id ∷ []) ∷ []) reply_form.Empty

abbrev drop_comment : List ℕ → Task
drop_comment id = task.Change (DropLinks (named_by 0 (codes "1")) 1 (member_of 1 0 id ∷ []) ∷ []) reply_form.Empty

-- a member that is there is not added again
added_again : (answer blog with_comments (add_comment (codes "2")) ≡ empty_reply) × (effect blog with_comments (add_comment (codes "2")) ≡ with_comments)
unfolding digits escape_byte
added_again = (refl, refl)

-- what is dropped need not exist
dropped_none : (answer blog with_comments (drop_comment (codes "3")) ≡ empty_reply) × (effect blog with_comments (drop_comment (codes "3")) ≡ with_comments)
unfolding digits escape_byte
dropped_none = (refl, refl)

comments_left : (answer blog with_comments (task.Fetch (record { target = target.Linkage (key_at 0 (codes "1")) 1; query = no_query }))).body ≡ codes "{\"data\":[{\"id\":\"1\",\"type\":\"comments\"},{\"id\":\"2\",\"type\":\"comments\"}]}"
unfolding digits escape_byte
comments_left = refl

first_dropped : (answer blog (effect blog with_comments (drop_comment (codes "1"))) (task.Fetch (record { target = target.Linkage (key_at 0 (codes "1")) 1; query = no_query }))).body ≡ codes "{\"data\":[{\"id\":\"2\",\"type\":\"comments\"}]}"
unfolding digits escape_byte
first_dropped = refl

-- a later member with the key of an earlier one is dropped
given_twice : map (λ row. row.links) (rows_of (effect blog with_comments (task.Change (SetLinks (named_by 0 (codes "1")) 1 (member_of 1 0 (codes "2") ∷ member_of 1 1 (codes "1") ∷ member_of 1 2 (codes "2") ∷ []) ∷ []) reply_form.Empty)) 0) ≡ (One None ∷ Many (codes "2" ∷ codes "1" ∷ []) ∷ []) ∷ []
unfolding digits escape_byte
given_twice = refl

-- a local id that is not bound
dropped_unbound : answer blog with_comments (task.Change (DropLinks (named_by 0 (codes "1")) 1 (record { named = named.Lid 1 (codes "x"); index = Some 0 } ∷ []) ∷ []) reply_form.Empty) ≡ record { status = 404; content = content.Plain; location = None; allow = allow.Nothing; body = codes "{\"errors\":[{\"code\":\"unknown-lid\",\"source\":{\"pointer\":\"/data/0/lid\"},\"status\":\"404\",\"title\":\"Unknown local id\"}]}" }
unfolding digits escape_byte
dropped_unbound = refl

-- the target is judged before the members
first_target : answer blog with_comments (task.Change (DropLinks (named_by 0 (codes "7")) 1 (record { named = named.Lid 1 (codes "x"); index = Some 0 } ∷ []) ∷ []) reply_form.Empty) ≡ record { status = 404; content = content.Plain; location = None; allow = allow.Nothing; body = codes "{\"errors\":[{\"code\":\"not-found\",\"status\":\"404\",\"title\":\"Not found\"}]}" }
unfolding digits escape_byte
first_target = refl

-- a member of a relationship in a resource
member_pointer_in_resource : answer blog with_comments (task.Change (Update (named_by 0 (codes "1")) [] ((1, member_of 1 0 (codes "1") ∷ member_of 1 1 (codes "9") ∷ []) ∷ []) ∷ []) reply_form.Updated) ≡ record { status = 404; content = content.Plain; location = None; allow = allow.Nothing; body = codes "{\"errors\":[{\"code\":\"related-not-found\",\"source\":{\"pointer\":\"/data/relationships/comments/data/1/id\"},\"status\":\"404\",\"title\":\"Related resource not found\"}]}" }
unfolding digits escape_byte
member_pointer_in_resource = refl

-- ---- rows that lead to themselves

abbrev pub nodes : Schema
nodes = record { name = codes "nodes"; client_ids = true; attributes = []; relationships = to_many (codes "all") 0 ∷ to_one (codes "next") 0 ∷ [] } ∷ []

-- by its own local id, and by the id that it will have
abbrev loops : List Operation
loops =
    Create 0 None (Some (codes "a")) [] ((0, member_of 0 0 (codes "1") ∷ []) ∷ (1, record { named = named.Lid 0 (codes "a"); index = None } ∷ []) ∷ [])
    ∷ Create 0 (Some (codes "x")) None [] ((1, one_member_of 0 (codes "x")) ∷ [])
    ∷ []

abbrev pub looped : World
looped = effect nodes empty_world (task.Change loops reply_form.Results)

abbrev remove_node : List ℕ → Task
remove_node id = task.Change (Remove (named_by 0 id) ∷ []) reply_form.Empty

self_linked : map (λ row. row.links) (rows_of looped 0) ≡ (Many (codes "1" ∷ []) ∷ One (Some (codes "1")) ∷ []) ∷ (Many [] ∷ One (Some (codes "x")) ∷ []) ∷ []
unfolding digits escape_byte
self_linked = refl

self_back : cell_at nodes looped (cell_key.Back (key_at 0 (codes "1")) (key_at 0 (codes "1")) 1) ≡ Some cell.Back
unfolding digits escape_byte
self_back = refl

-- a link from itself alone does not keep a row
self_removed : (answer nodes looped (remove_node (codes "x"))).status ≡ 204
unfolding digits escape_byte
self_removed = refl

self_back_removed : cell_at nodes (effect nodes looped (remove_node (codes "x"))) (cell_key.Back (key_at 0 (codes "x")) (key_at 0 (codes "x")) 1) ≡ None
unfolding digits escape_byte
self_back_removed = refl

-- a primary is not included
primary_not_included : (answer nodes looped (task.Fetch (record { target = target.Resource (key_at 0 (codes "x")); query = record no_query { include = Some (path_of (1 ∷ []) ∷ []) } }))).body ≡ codes "{\"data\":{\"id\":\"x\",\"links\":{\"self\":\"/nodes/x\"},\"relationships\":{\"all\":{\"data\":[],\"links\":{\"related\":\"/nodes/x/all\",\"self\":\"/nodes/x/relationships/all\"}},\"next\":{\"data\":{\"id\":\"x\",\"type\":\"nodes\"},\"links\":{\"related\":\"/nodes/x/next\",\"self\":\"/nodes/x/relationships/next\"}}},\"type\":\"nodes\"},\"included\":[]}"
unfolding digits escape_byte
primary_not_included = refl

-- ---- pages

abbrev pub remove_note : List ℕ → Task
remove_note id = task.Change (Remove (named_by 0 id) ∷ []) reply_form.Empty

abbrev pub after_id : List ℕ → Place
after_id id = record { values = []; id = id }

-- the next page
second_page : (answer notes three_notes (task.Fetch (record { target = target.Collection 0; query = record no_query { pairs = ((codes "page[after]"), (codes "WyIyIl0")) ∷ ((codes "page[size]"), (codes "2")) ∷ []; page = record { size = 2; after = Some (after_id (codes "2")); before = None } } }))).body ≡ codes "{\"data\":[{\"attributes\":{\"text\":\"hello\"},\"id\":\"3\",\"links\":{\"self\":\"/notes/3\"},\"type\":\"notes\"}],\"links\":{\"next\":null,\"prev\":\"/notes?page%5Bbefore%5D=WyIzIl0&page%5Bsize%5D=2\"}}"
unfolding digits escape_byte form_urlencoded_on_literals base64_on_literals
second_page = refl

-- the last items before a cursor
first_page_back : (answer notes three_notes (task.Fetch (record { target = target.Collection 0; query = record no_query { pairs = ((codes "page[before]"), (codes "WyIzIl0")) ∷ ((codes "page[size]"), (codes "1")) ∷ []; page = record { size = 1; after = None; before = Some (after_id (codes "3")) } } }))).body ≡ codes "{\"data\":[{\"attributes\":{\"text\":\"hello\"},\"id\":\"2\",\"links\":{\"self\":\"/notes/2\"},\"type\":\"notes\"}],\"links\":{\"next\":\"/notes?page%5Bafter%5D=WyIyIl0&page%5Bsize%5D=1\",\"prev\":\"/notes?page%5Bbefore%5D=WyIyIl0&page%5Bsize%5D=1\"}}"
unfolding digits escape_byte form_urlencoded_on_literals base64_on_literals
first_page_back = refl

-- a cursor of a row that is no longer there
after_removed : (answer notes (effect notes three_notes (remove_note (codes "2"))) (task.Fetch (record { target = target.Collection 0; query = record no_query { pairs = ((codes "page[after]"), (codes "WyIyIl0")) ∷ []; page = record { size = 50; after = Some (after_id (codes "2")); before = None } } }))).body ≡ codes "{\"data\":[{\"attributes\":{\"text\":\"hello\"},\"id\":\"3\",\"links\":{\"self\":\"/notes/3\"},\"type\":\"notes\"}],\"links\":{\"next\":null,\"prev\":\"/notes?page%5Bbefore%5D=WyIzIl0\"}}"
unfolding digits escape_byte form_urlencoded_on_literals base64_on_literals
after_removed = refl

-- an empty page has no links, though items stand before it
past_end : (answer notes three_notes (task.Fetch (record { target = target.Collection 0; query = record no_query { pairs = ((codes "page[after]"), (codes "WyI5Il0")) ∷ []; page = record { size = 50; after = Some (after_id (codes "9")); before = None } } }))).body ≡ codes "{\"data\":[],\"links\":{\"next\":null,\"prev\":null}}"
unfolding digits escape_byte
past_end = refl

-- notes 1 to 5
abbrev five_notes : World
five_notes = effect notes empty_world (task.Change (note ∷ note ∷ note ∷ note ∷ note ∷ []) reply_form.Results)

abbrev range_of_notes : ℕ → List ℕ → List ℕ → List ℕ → List ℕ → List ℕ → List ℕ
range_of_notes size digits after after_text before before_text =
    (answer notes five_notes (task.Fetch (record {
      target = target.Collection 0;
      query = record no_query {
        pairs = (codes "page[after]", after_text) ∷ (codes "page[before]", before_text) ∷ (codes "page[size]", digits) ∷ [];
        page = record { size = size; after = Some (after_id after); before = Some (after_id before) };
      };
    }))).body

-- between two cursors, cut short: the links keep neither cursor
notes_cut_short : range_of_notes 2 (codes "2") (codes "1") (codes "WyIxIl0") (codes "5") (codes "WyI1Il0") ≡ codes "{\"data\":[{\"attributes\":{\"text\":\"hello\"},\"id\":\"2\",\"links\":{\"self\":\"/notes/2\"},\"type\":\"notes\"},{\"attributes\":{\"text\":\"hello\"},\"id\":\"3\",\"links\":{\"self\":\"/notes/3\"},\"type\":\"notes\"}],\"links\":{\"next\":\"/notes?page%5Bafter%5D=WyIzIl0&page%5Bsize%5D=2\",\"prev\":\"/notes?page%5Bbefore%5D=WyIyIl0&page%5Bsize%5D=2\"},\"meta\":{\"page\":{\"rangeTruncated\":true}}}"
unfolding digits escape_byte form_urlencoded_on_literals base64_on_literals
notes_cut_short = refl

-- with room for all of them
notes_between : range_of_notes 3 (codes "3") (codes "1") (codes "WyIxIl0") (codes "5") (codes "WyI1Il0") ≡ codes "{\"data\":[{\"attributes\":{\"text\":\"hello\"},\"id\":\"2\",\"links\":{\"self\":\"/notes/2\"},\"type\":\"notes\"},{\"attributes\":{\"text\":\"hello\"},\"id\":\"3\",\"links\":{\"self\":\"/notes/3\"},\"type\":\"notes\"},{\"attributes\":{\"text\":\"hello\"},\"id\":\"4\",\"links\":{\"self\":\"/notes/4\"},\"type\":\"notes\"}],\"links\":{\"next\":\"/notes?page%5Bafter%5D=WyI0Il0&page%5Bsize%5D=3\",\"prev\":\"/notes?page%5Bbefore%5D=WyIyIl0&page%5Bsize%5D=3\"}}"
unfolding digits escape_byte form_urlencoded_on_literals base64_on_literals
notes_between = refl

-- the cursors exchanged
notes_exchanged : range_of_notes 2 (codes "2") (codes "5") (codes "WyI1Il0") (codes "1") (codes "WyIxIl0") ≡ codes "{\"data\":[],\"links\":{\"next\":null,\"prev\":null}}"
unfolding digits escape_byte form_urlencoded_on_literals base64_on_literals
notes_exchanged = refl

-- ids by length and then by bytes
short_ids_first : map (λ row. row.key.id) (rows_of (effect nodes empty_world (task.Change (node (codes "b") ∷ node (codes "aa") ∷ node (codes "a") ∷ node (codes "Z") ∷ []) reply_form.Results)) 0) ≡ codes "Z" ∷ codes "a" ∷ codes "b" ∷ codes "aa" ∷ []
unfolding digits escape_byte
short_ids_first = refl

-- articles 1 to 3, the first a draft, the second without saying so, the third none
abbrev pub drafts : World
drafts = effect blog empty_world (task.Change (draft_of (value.Bool true) ∷ draft_of value.Null ∷ draft_of (value.Bool false) ∷ []) reply_form.Results)

-- articles 1 to 3 with these titles
abbrev pub titled : World
titled = effect blog empty_world (task.Change (article (codes "b") [] ∷ article (codes "a") [] ∷ article (codes "b") [] ∷ []) reply_form.Results)

abbrev pub by_attribute : ℕ → Bool → List SortKey
by_attribute attribute descending = record { attribute = attribute; descending = descending } ∷ []

abbrev pub ids_of_rows : Selected → List (List ℕ)
ids_of_rows page = map (λ row. row.key.id) page.rows

-- null, false, true
null_first : ids_of_rows (page_of (by_attribute 0 false) (no_cursors 50) (rows_of drafts 0)) ≡ codes "2" ∷ codes "3" ∷ codes "1" ∷ []
unfolding digits escape_byte
null_first = refl

-- true, false, null
null_last : ids_of_rows (page_of (by_attribute 0 true) (no_cursors 50) (rows_of drafts 0)) ≡ codes "1" ∷ codes "3" ∷ codes "2" ∷ []
unfolding digits escape_byte
null_last = refl

draft_page : (answer blog drafts (task.Fetch (record { target = target.Collection 0; query = record no_query { pairs = ((codes "sort"), (codes "draft")) ∷ ((codes "page[size]"), (codes "1")) ∷ []; fields = (0, (codes "draft") ∷ []) ∷ []; sort = record { attribute = 0; descending = false } ∷ []; page = no_cursors 1 } }))).body ≡ codes "{\"data\":[{\"attributes\":{\"draft\":null},\"id\":\"2\",\"links\":{\"self\":\"/articles/2\"},\"type\":\"articles\"}],\"links\":{\"next\":\"/articles?page%5Bafter%5D=W251bGwsIjIiXQ&page%5Bsize%5D=1&sort=draft\",\"prev\":null}}"
unfolding digits escape_byte form_urlencoded_on_literals base64_on_literals
draft_page = refl

by_title : ids_of_rows (page_of (by_attribute 1 false) (no_cursors 50) (rows_of titled 0)) ≡ codes "2" ∷ codes "1" ∷ codes "3" ∷ []
unfolding digits escape_byte
by_title = refl

-- ids rise within one title
by_title_down : ids_of_rows (page_of (by_attribute 1 true) (no_cursors 2) (rows_of titled 0)) ≡ codes "1" ∷ codes "3" ∷ []
unfolding digits escape_byte
by_title_down = refl

title_page : (answer blog titled (task.Fetch (record { target = target.Collection 0; query = record no_query { pairs = ((codes "sort"), (codes "-title")) ∷ ((codes "page[size]"), (codes "2")) ∷ []; fields = (0, []) ∷ []; sort = record { attribute = 1; descending = true } ∷ []; page = no_cursors 2 } }))).body ≡ codes "{\"data\":[{\"id\":\"1\",\"links\":{\"self\":\"/articles/1\"},\"type\":\"articles\"},{\"id\":\"3\",\"links\":{\"self\":\"/articles/3\"},\"type\":\"articles\"}],\"links\":{\"next\":\"/articles?page%5Bafter%5D=WyJiIiwiMyJd&page%5Bsize%5D=2&sort=-title\",\"prev\":null}}"
unfolding digits escape_byte form_urlencoded_on_literals base64_on_literals
title_page = refl

-- ---- lists

abbrev pub with_lid : Operation
with_lid = Create 2 None (Some (codes "p")) (value.Text (codes "Ann") ∷ []) []

abbrev pub list_of : List Operation → Task
list_of operations = task.Change operations reply_form.Results

-- a local id is bound once
bound_twice : answer blog empty_world (list_of (with_lid ∷ with_lid ∷ [])) ≡ record { status = 409; content = content.Plain; location = None; allow = allow.Nothing; body = codes "{\"errors\":[{\"code\":\"lid-bound\",\"source\":{\"pointer\":\"/atomic:operations/1/data/lid\"},\"status\":\"409\",\"title\":\"Local id already bound\"}]}" }
unfolding digits escape_byte
bound_twice = refl

bound_twice_stays : effect blog empty_world (list_of (with_lid ∷ with_lid ∷ [])) ≡ empty_world
unfolding digits escape_byte
bound_twice_stays = refl

added_and_removed : answer blog empty_world (list_of (with_lid ∷ Remove (record { named = named.Lid 2 (codes "p"); place = stands.Ref }) ∷ [])) ≡ record { status = 200; content = content.Atomic; location = None; allow = allow.Nothing; body = codes "{\"atomic:results\":[{\"data\":{\"attributes\":{\"name\":\"Ann\"},\"id\":\"1\",\"links\":{\"self\":\"/people/1\"},\"type\":\"people\"}},{}]}" }
unfolding digits escape_byte
added_and_removed = refl

no_target : answer blog empty_world (list_of (Update (record { named = named.Id (key_at 2 (codes "9")); place = stands.Href }) [] [] ∷ [])) ≡ record { status = 404; content = content.Plain; location = None; allow = allow.Nothing; body = codes "{\"errors\":[{\"code\":\"not-found\",\"source\":{\"pointer\":\"/atomic:operations/0/href\"},\"status\":\"404\",\"title\":\"Not found\"}]}" }
unfolding digits escape_byte
no_target = refl

-- local ids are by type
same_lid_other_type : effect blog empty_world (list_of (with_lid ∷ Create 1 None (Some (codes "p")) (value.Text (codes "c") ∷ []) ((0, record { named = named.Lid 2 (codes "p"); index = None } ∷ []) ∷ []) ∷ [])) ≡ record { rows = (key_at 1 (codes "1"), record { key = key_at 1 (codes "1"); values = value.Text (codes "c") ∷ []; links = One (Some (codes "1")) ∷ [] }) ∷ (key_at 2 (codes "1"), record { key = key_at 2 (codes "1"); values = value.Text (codes "Ann") ∷ []; links = [] }) ∷ []; counters = (1, 2) ∷ (2, 2) ∷ [] }
unfolding digits escape_byte
same_lid_other_type = refl

-- a list without an add has no document
no_create : answer blog by_ann (list_of (Update (record { named = named.Id (key_at 2 (codes "ann")); place = stands.Data }) ((0, value.Text (codes "A")) ∷ []) [] ∷ [])) ≡ empty_reply
unfolding digits escape_byte
no_create = refl

ids_ended : answer blog (record { rows = []; counters = (1, 9223372036854775807) ∷ [] }) (task.Change (Create 1 None None (value.Text (codes "c") ∷ []) [] ∷ []) reply_form.Created) ≡ record { status = 403; content = content.Plain; location = None; allow = allow.Nothing; body = codes "{\"errors\":[{\"code\":\"ids-ended\",\"status\":\"403\",\"title\":\"No ids left\"}]}" }
unfolding digits escape_byte
ids_ended = refl

-- the location of a created resource
created : answer blog empty_world (task.Change (person (codes "ann") (codes "Ann") ∷ []) reply_form.Created) ≡ record { status = 201; content = content.Plain; location = Some (codes "/people/ann"); allow = allow.Nothing; body = codes "{\"data\":{\"attributes\":{\"name\":\"Ann\"},\"id\":\"ann\",\"links\":{\"self\":\"/people/ann\"},\"type\":\"people\"}}" }
unfolding digits escape_byte
created = refl

updated : answer blog by_ann (task.Change (Update (named_by 2 (codes "ann")) ((0, value.Text (codes "A")) ∷ []) [] ∷ []) reply_form.Updated) ≡ record { status = 200; content = content.Plain; location = None; allow = allow.Nothing; body = codes "{\"data\":{\"attributes\":{\"name\":\"A\"},\"id\":\"ann\",\"links\":{\"self\":\"/people/ann\"},\"type\":\"people\"}}" }
unfolding digits escape_byte
updated = refl

exists : answer blog by_ann (task.Change (person (codes "ann") (codes "Ann") ∷ []) reply_form.Created) ≡ record { status = 409; content = content.Plain; location = None; allow = allow.Nothing; body = codes "{\"errors\":[{\"code\":\"id-exists\",\"source\":{\"pointer\":\"/data/id\"},\"status\":\"409\",\"title\":\"Id already exists\"}]}" }
unfolding digits escape_byte
exists = refl

-- ---- many members

-- an article with 1,000 comments, of which one row is here, and a comment more
abbrev full : World
full = record {
  rows =
      (key_at 0 (codes "1"), record { key = key_at 0 (codes "1"); values = value.Null ∷ value.Text (codes "T") ∷ value.Int (pos 0) ∷ []; links = One None ∷ Many (map decimal (range_with_len 1 1000)) ∷ [] })
      ∷ (key_at 1 (codes "1"), record { key = key_at 1 (codes "1"); values = value.Text (codes "c") ∷ []; links = One None ∷ [] })
      ∷ (key_at 1 (codes "1001"), record { key = key_at 1 (codes "1001"); values = value.Text (codes "c") ∷ []; links = One None ∷ [] })
      ∷ [];
  counters = (0, 2) ∷ (1, 1002) ∷ [];
}

abbrev add_comments : List Member → Task
add_comments members = task.Change (AddLinks (named_by 0 (codes "1")) 1 members ∷ []) reply_form.Empty

-- the joined list is counted
joined_full : answer blog full (add_comment (codes "1001")) ≡ record { status = 422; content = content.Plain; location = None; allow = allow.Nothing; body = codes "{\"errors\":[{\"code\":\"too-many-members\",\"source\":{\"pointer\":\"/data\"},\"status\":\"422\",\"title\":\"Too many members\"}]}" }
unfolding digits escape_byte
joined_full = refl

-- not what was there already
joined_same : answer blog full (add_comment (codes "1")) ≡ empty_reply
unfolding digits escape_byte
joined_same = refl

-- each member is judged before the length
members_first : answer blog full (add_comments (member_of 1 0 (codes "1001") ∷ member_of 1 1 (codes "7777") ∷ [])) ≡ record { status = 404; content = content.Plain; location = None; allow = allow.Nothing; body = codes "{\"errors\":[{\"code\":\"related-not-found\",\"source\":{\"pointer\":\"/data/1/id\"},\"status\":\"404\",\"title\":\"Related resource not found\"}]}" }
unfolding digits escape_byte
members_first = refl

-- duplicates are dropped before the length is judged
same_member_often : (answer blog full (task.Change (SetLinks (named_by 0 (codes "1")) 1 (map (λ n. member_of 1 n (codes "1")) (range_with_len 0 1001)) ∷ []) reply_form.Empty)).status ≡ 204
unfolding digits escape_byte
same_member_often = refl

-- ---- reads

abbrev all_notes : Task
all_notes = page_of_notes [] (no_cursors 50)

-- a page that is empty looks at each id of its type
reaches_new : reach notes empty_world all_notes (cell_key.Row (key_at 0 (codes "1"))) ≡ true
unfolding digits escape_byte
reaches_new = refl

reaches_no_counter : reach notes empty_world all_notes (cell_key.Counter 0) ≡ false
unfolding digits escape_byte
reaches_no_counter = refl

-- a page looks no further than the item after it
reaches_to_next : (reach notes three_notes (page_of_notes [] (no_cursors 1)) (cell_key.Row (key_at 0 (codes "2"))) ≡ true) × (reach notes three_notes (page_of_notes [] (no_cursors 1)) (cell_key.Row (key_at 0 (codes "3"))) ≡ false)
unfolding digits escape_byte
reaches_to_next = (refl, refl)

covers_part : covers (record { keys = []; parts = record { span = span.Rows 0 edge.End edge.End; found = Some (cell_key.Row (key_at 0 (codes "2"))); from_top = false } ∷ [] }) (cell_key.Row (key_at 0 (codes "1"))) ≡ true
unfolding digits escape_byte
covers_part = refl

covers_no_more : covers (record { keys = []; parts = record { span = span.Rows 0 edge.End edge.End; found = Some (cell_key.Row (key_at 0 (codes "2"))); from_top = false } ∷ [] }) (cell_key.Row (key_at 0 (codes "3"))) ≡ false
unfolding digits escape_byte
covers_no_more = refl

-- ---- what each refusal blames in a list

abbrev pub refused_with : ℕ → List ℕ → Reply
refused_with status body = record { status = status; content = content.Plain; location = None; allow = allow.Nothing; body = body }

-- a local id that is not bound, where the operation is named by `ref`
unbound_target : answer blog empty_world (list_of (Remove (record { named = named.Lid 2 (codes "p"); place = stands.Ref }) ∷ [])) ≡ refused_with 404 (codes "{\"errors\":[{\"code\":\"unknown-lid\",\"source\":{\"pointer\":\"/atomic:operations/0/ref/lid\"},\"status\":\"404\",\"title\":\"Unknown local id\"}]}")
unfolding digits escape_byte
unbound_target = refl

-- a local id that is not bound, in the linkage of a new resource
unbound_member : answer blog by_ann (list_of (with_lid ∷ article (codes "T") ((0, record { named = named.Lid 2 (codes "q"); index = None } ∷ []) ∷ []) ∷ [])) ≡ refused_with 404 (codes "{\"errors\":[{\"code\":\"unknown-lid\",\"source\":{\"pointer\":\"/atomic:operations/1/data/relationships/author/data/lid\"},\"status\":\"404\",\"title\":\"Unknown local id\"}]}")
unfolding digits escape_byte
unbound_member = refl

still_linked : answer blog by_ann (list_of (Remove (record { named = named.Id (key_at 2 (codes "ann")); place = stands.Href }) ∷ [])) ≡ refused_with 409 (codes "{\"errors\":[{\"code\":\"still-referenced\",\"source\":{\"pointer\":\"/atomic:operations/0/href\"},\"status\":\"409\",\"title\":\"Resource is still referenced\"}]}")
unfolding digits escape_byte
still_linked = refl

exists_in_list : answer blog by_ann (list_of (with_lid ∷ person (codes "ann") (codes "Ann") ∷ [])) ≡ refused_with 409 (codes "{\"errors\":[{\"code\":\"id-exists\",\"source\":{\"pointer\":\"/atomic:operations/1/data/id\"},\"status\":\"409\",\"title\":\"Id already exists\"}]}")
unfolding digits escape_byte
exists_in_list = refl

-- no source where no part of the request is to blame
ended_in_list : answer blog (record { rows = []; counters = (1, 9223372036854775807) ∷ [] }) (list_of (Create 1 None None (value.Text (codes "c") ∷ []) [] ∷ [])) ≡ refused_with 403 (codes "{\"errors\":[{\"code\":\"ids-ended\",\"status\":\"403\",\"title\":\"No ids left\"}]}")
unfolding digits escape_byte
ended_in_list = refl

-- members are judged in order, and before their number
missing_in_resource : answer blog full (list_of (Update (record { named = named.Id (key_at 0 (codes "1")); place = stands.Data }) [] ((1, map (λ n. member_of 1 n (decimal (n + 1))) (range_with_len 0 1001)) ∷ []) ∷ [])) ≡ refused_with 404 (codes "{\"errors\":[{\"code\":\"related-not-found\",\"source\":{\"pointer\":\"/atomic:operations/0/data/relationships/comments/data/1/id\"},\"status\":\"404\",\"title\":\"Related resource not found\"}]}")
unfolding digits escape_byte
missing_in_resource = refl
