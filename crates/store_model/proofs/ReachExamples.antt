-- Computed examples of reach: which cells a task may look at.
use Rattle.std.specs.Prelude.{◌≡◌, ℕ, Bool, List, [], ◌∷◌, true, false, Some, None, Option, codes, map}
use Rattle.std.proofs.Common.{refl}
use Rattle.std.specs.Fmt.{digits}
use Rattle.resource_schema.specs.declared.values.AttrValue.TheVariants as value
use Rattle.resource_schema.specs.declared.values.Place.{Place}
use Rattle.resource_schema.specs.declared.targets.Target.{Target}
use Rattle.resource_schema.specs.declared.targets.Target.TheVariants as target
use Rattle.resource_schema.specs.Kinds.{notes}
use Rattle.world_cells.specs.declared.keys.CellKey.{CellKey}
use Rattle.world_cells.specs.declared.keys.CellKey.TheVariants as cell_key
use Rattle.world_cells.specs.World.{World, empty_world}
use Rattle.task_forms.specs.Queries.{no_query}
use Rattle.task_forms.specs.declared.operations.Named.TheVariants as named
use Rattle.task_forms.specs.declared.operations.Where.TheVariants as stands
use Rattle.task_forms.specs.declared.operations.Operation.{Operation}
use Rattle.task_forms.specs.declared.operations.Operation.TheVariants.{Create, Update, Remove, SetLinks, AddLinks, DropLinks}
use Rattle.task_forms.specs.declared.queries.Page.{Page}
use Rattle.task_forms.specs.declared.queries.Path.{Path}
use Rattle.task_forms.specs.declared.queries.SortKey.{SortKey}
use Rattle.task_forms.specs.declared.tasks.Task.{Task}
use Rattle.task_forms.specs.declared.tasks.Task.TheVariants as task
use Rattle.json.specs.Print.{escape_byte}
use Rattle.store_model.specs.Answer.{effect}
use Rattle.store_model.specs.Reach.{of_kind, listed, reach_page, reach_walk, reach}
use Rattle.store_model.proofs.Examples.{blog, no_cursors, page_of_notes, three_notes}
use Rattle.store_model.proofs.Rows.{key_at, named_by, member_of, one_member_of, path_of, person, blog_with_people, drafts, by_attribute, list_of, with_lid, after_id, remove_note}

abbrev row : ℕ → List ℕ → CellKey
row kind id = cell_key.Row (key_at kind id)

abbrev comment_by : List ℕ → Operation
comment_by id = Create 1 None None (value.Text (codes "c") ∷ []) ((0, one_member_of 2 id) ∷ [])

-- what a list of operations looks at, in a world with people ann and bob, comments 1 and 2, and article 1
abbrev looks : List Operation → List CellKey → List Bool
looks operations keys = map (reach blog blog_with_people (list_of operations)) keys

-- ---- one operation

-- a new row, what it leads to, and the next id of its type
new_row : looks (comment_by (codes "ann") ∷ []) (row 1 (codes "3") ∷ row 2 (codes "ann") ∷ cell_key.Counter 1 ∷ []) ≡ true ∷ true ∷ true ∷ []
unfolding digits escape_byte
new_row = refl

-- no other row, no way back, and no other counter
new_row_alone : looks (comment_by (codes "ann") ∷ []) (row 1 (codes "2") ∷ row 1 (codes "4") ∷ row 2 (codes "bob") ∷ row 2 (codes "3") ∷ cell_key.Back (key_at 1 (codes "3")) (key_at 0 (codes "1")) 1 ∷ cell_key.Back (key_at 2 (codes "ann")) (key_at 1 (codes "3")) 0 ∷ cell_key.Counter 0 ∷ cell_key.Counter 2 ∷ []) ≡ false ∷ false ∷ false ∷ false ∷ false ∷ false ∷ false ∷ false ∷ []
unfolding digits escape_byte
new_row_alone = refl

-- a client's id asks no counter
own_id : looks (person (codes "eve") (codes "Eve") ∷ []) (row 2 (codes "eve") ∷ row 2 (codes "1") ∷ row 2 (codes "ann") ∷ cell_key.Counter 2 ∷ cell_key.Back (key_at 2 (codes "eve")) (key_at 0 (codes "1")) 0 ∷ []) ≡ true ∷ false ∷ false ∷ false ∷ false ∷ []
unfolding digits escape_byte
own_id = refl

-- the row and what the new links lead to, not what the old ones do
update_looks : looks (Update (named_by 0 (codes "1")) ((1, value.Text (codes "U")) ∷ []) ((0, one_member_of 2 (codes "bob")) ∷ []) ∷ []) (row 0 (codes "1") ∷ row 2 (codes "bob") ∷ row 2 (codes "ann") ∷ row 1 (codes "1") ∷ cell_key.Counter 0 ∷ cell_key.Back (key_at 0 (codes "1")) (key_at 1 (codes "1")) 0 ∷ cell_key.Back (key_at 2 (codes "bob")) (key_at 0 (codes "1")) 0 ∷ []) ≡ true ∷ true ∷ false ∷ false ∷ false ∷ false ∷ false ∷ []
unfolding digits escape_byte
update_looks = refl

-- the row and each way back to it, be it there or not
remove_looks : looks (Remove (named_by 2 (codes "bob")) ∷ []) (row 2 (codes "bob") ∷ cell_key.Back (key_at 2 (codes "bob")) (key_at 1 (codes "2")) 0 ∷ cell_key.Back (key_at 2 (codes "bob")) (key_at 0 (codes "7")) 0 ∷ cell_key.Back (key_at 2 (codes "ann")) (key_at 1 (codes "2")) 0 ∷ cell_key.Back (key_at 1 (codes "2")) (key_at 2 (codes "bob")) 0 ∷ row 1 (codes "2") ∷ row 2 (codes "ann") ∷ cell_key.Counter 2 ∷ []) ≡ true ∷ true ∷ true ∷ false ∷ false ∷ false ∷ false ∷ false ∷ []
unfolding digits escape_byte
remove_looks = refl

-- article 1, comments 1 and 2, author ann, a way back, a counter
abbrev around : List CellKey
around = row 0 (codes "1") ∷ row 1 (codes "1") ∷ row 1 (codes "2") ∷ row 2 (codes "ann") ∷ cell_key.Back (key_at 1 (codes "2")) (key_at 0 (codes "1")) 1 ∷ cell_key.Back (key_at 0 (codes "1")) (key_at 0 (codes "1")) 1 ∷ cell_key.Counter 0 ∷ []

-- the row and the members; what is dropped need not be there, so it is not looked at
set_looks : looks (SetLinks (named_by 0 (codes "1")) 1 (member_of 1 0 (codes "2") ∷ []) ∷ []) around ≡ true ∷ false ∷ true ∷ false ∷ false ∷ false ∷ false ∷ []
unfolding digits escape_byte
set_looks = refl

add_looks : looks (AddLinks (named_by 0 (codes "1")) 1 (member_of 1 0 (codes "2") ∷ []) ∷ []) around ≡ true ∷ false ∷ true ∷ false ∷ false ∷ false ∷ false ∷ []
unfolding digits escape_byte
add_looks = refl

drop_looks : looks (DropLinks (named_by 0 (codes "1")) 1 (member_of 1 0 (codes "2") ∷ []) ∷ []) around ≡ true ∷ false ∷ false ∷ false ∷ false ∷ false ∷ false ∷ []
unfolding digits escape_byte
drop_looks = refl

-- ---- lists

-- each in the world that the earlier ones leave
ids_in_turn : looks (comment_by (codes "ann") ∷ comment_by (codes "bob") ∷ []) (row 1 (codes "3") ∷ row 1 (codes "4") ∷ row 1 (codes "5") ∷ row 2 (codes "ann") ∷ row 2 (codes "bob") ∷ []) ≡ true ∷ true ∷ false ∷ true ∷ true ∷ []
unfolding digits escape_byte
ids_in_turn = refl

-- nothing behind the first that is refused
up_to_refused : looks (Remove (named_by 2 (codes "zed")) ∷ Remove (named_by 1 (codes "1")) ∷ []) (row 2 (codes "zed") ∷ row 1 (codes "1") ∷ cell_key.Back (key_at 1 (codes "1")) (key_at 0 (codes "1")) 1 ∷ []) ≡ true ∷ false ∷ false ∷ []
unfolding digits escape_byte
up_to_refused = refl

-- a local id stands for its row from then on: the second operation is not refused, and the third is looked at
by_local_id : looks (with_lid ∷ Update (record { named = named.Lid 2 (codes "p"); place = stands.Ref }) ((0, value.Text (codes "A")) ∷ []) [] ∷ Remove (named_by 1 (codes "9")) ∷ []) (row 2 (codes "1") ∷ row 1 (codes "9") ∷ row 2 (codes "p") ∷ row 2 (codes "2") ∷ []) ≡ true ∷ true ∷ false ∷ false ∷ []
unfolding digits escape_byte
by_local_id = refl

-- a local id that is not bound names no row
unbound_looks : looks (Remove (record { named = named.Lid 2 (codes "ann"); place = stands.Ref }) ∷ []) (row 2 (codes "ann") ∷ cell_key.Back (key_at 2 (codes "ann")) (key_at 1 (codes "1")) 0 ∷ []) ≡ false ∷ false ∷ []
unfolding digits escape_byte
unbound_looks = refl

no_operation : looks [] around ≡ false ∷ false ∷ false ∷ false ∷ false ∷ false ∷ false ∷ []
unfolding digits escape_byte
no_operation = refl

-- ---- fetches of one row and of its links

abbrev fetch : Target → Option (List Path) → Task
fetch t include = task.Fetch (record { target = t; query = record no_query { include = include } })

abbrev fetch_looks : Target → Option (List Path) → List CellKey → List Bool
fetch_looks t include keys = map (reach blog blog_with_people (fetch t include)) keys

resource_looks : fetch_looks (target.Resource (key_at 0 (codes "1"))) None around ≡ true ∷ false ∷ false ∷ false ∷ false ∷ false ∷ false ∷ []
unfolding digits escape_byte
resource_looks = refl

-- its comments, and their authors
included_looks : fetch_looks (target.Resource (key_at 0 (codes "1"))) (Some (path_of (1 ∷ 0 ∷ []) ∷ [])) (row 0 (codes "1") ∷ row 1 (codes "1") ∷ row 1 (codes "2") ∷ row 2 (codes "ann") ∷ row 2 (codes "bob") ∷ row 1 (codes "3") ∷ row 2 (codes "eve") ∷ cell_key.Counter 1 ∷ cell_key.Back (key_at 1 (codes "1")) (key_at 0 (codes "1")) 1 ∷ []) ≡ true ∷ true ∷ true ∷ true ∷ true ∷ false ∷ false ∷ false ∷ false ∷ []
unfolding digits escape_byte
included_looks = refl

related_looks : fetch_looks (target.Related (key_at 0 (codes "1")) 1) None around ≡ true ∷ true ∷ true ∷ false ∷ false ∷ false ∷ false ∷ []
unfolding digits escape_byte
related_looks = refl

related_one_looks : fetch_looks (target.Related (key_at 0 (codes "1")) 0) None around ≡ true ∷ false ∷ false ∷ true ∷ false ∷ false ∷ false ∷ []
unfolding digits escape_byte
related_one_looks = refl

-- the links of a row that is not there
related_of_none : fetch_looks (target.Related (key_at 0 (codes "2")) 1) None (row 0 (codes "2") ∷ around) ≡ true ∷ false ∷ false ∷ false ∷ false ∷ false ∷ false ∷ false ∷ []
unfolding digits escape_byte
related_of_none = refl

-- a linkage is in its row
linkage_looks : fetch_looks (target.Linkage (key_at 0 (codes "1")) 1) None around ≡ true ∷ false ∷ false ∷ false ∷ false ∷ false ∷ false ∷ []
unfolding digits escape_byte
linkage_looks = refl

operations_look : fetch_looks target.Operations None around ≡ false ∷ false ∷ false ∷ false ∷ false ∷ false ∷ false ∷ []
unfolding digits escape_byte
operations_look = refl

-- ---- collections

abbrev at_page : ℕ → Option Place → Option Place → Page
at_page size after before = record { size = size; after = after; before = before }

-- which of the notes 0 to 5, 10 and 99 a page of a world looks at
abbrev notes_looked : World → Page → List Bool
notes_looked w page = map (λ id. reach notes w (page_of_notes [] page) (row 0 id)) (codes "0" ∷ codes "1" ∷ codes "2" ∷ codes "3" ∷ codes "4" ∷ codes "5" ∷ codes "10" ∷ codes "99" ∷ [])

-- note 1 and the one after it; a new note before it would come first
first_of_three : notes_looked three_notes (no_cursors 1) ≡ true ∷ true ∷ true ∷ false ∷ false ∷ false ∷ false ∷ false ∷ []
unfolding digits escape_byte
first_of_three = refl

-- note 2, and the notes on both sides of it
second_of_three : (notes_looked three_notes (at_page 1 (Some (after_id (codes "1"))) None) ≡ false ∷ true ∷ true ∷ true ∷ false ∷ false ∷ false ∷ false ∷ []) × (notes_looked three_notes (at_page 1 None (Some (after_id (codes "3")))) ≡ false ∷ true ∷ true ∷ true ∷ false ∷ false ∷ false ∷ false ∷ [])
unfolding digits escape_byte
second_of_three = (refl, refl)

-- note 3, the one before it, and whatever would come behind it
last_of_three : notes_looked three_notes (at_page 1 (Some (after_id (codes "2"))) None) ≡ false ∷ false ∷ true ∷ true ∷ true ∷ true ∷ true ∷ true ∷ []
unfolding digits escape_byte
last_of_three = refl

-- all notes: whatever would come before, between or behind
all_three : notes_looked three_notes (no_cursors 3) ≡ true ∷ true ∷ true ∷ true ∷ true ∷ true ∷ true ∷ true ∷ []
unfolding digits escape_byte
all_three = refl

-- note 2 is gone: a new one there would be the next
looks_into_gap : notes_looked (effect notes three_notes (remove_note (codes "2"))) (no_cursors 1) ≡ true ∷ true ∷ true ∷ true ∷ false ∷ false ∷ false ∷ false ∷ []
unfolding digits escape_byte
looks_into_gap = refl

-- a page without a note looks at what would be on it: behind a cursor, before one, or anything
empty_pages : (notes_looked three_notes (at_page 2 (Some (after_id (codes "4"))) None) ≡ false ∷ false ∷ false ∷ false ∷ false ∷ true ∷ true ∷ true ∷ []) × (notes_looked three_notes (at_page 2 None (Some (after_id (codes "1")))) ≡ true ∷ false ∷ false ∷ false ∷ false ∷ false ∷ false ∷ false ∷ []) × (notes_looked empty_world (no_cursors 2) ≡ true ∷ true ∷ true ∷ true ∷ true ∷ true ∷ true ∷ true ∷ [])
unfolding digits escape_byte
empty_pages = (refl, refl, refl)

-- a range looks up to the notes on both sides of the page, and where it has none at what would be between the cursors
range_looks : (notes_looked three_notes (at_page 1 (Some (after_id (codes "1"))) (Some (after_id (codes "4")))) ≡ false ∷ true ∷ true ∷ true ∷ false ∷ false ∷ false ∷ false ∷ []) × (notes_looked three_notes (at_page 1 (Some (after_id (codes "3"))) (Some (after_id (codes "6")))) ≡ false ∷ false ∷ false ∷ false ∷ true ∷ true ∷ false ∷ false ∷ [])
unfolding digits escape_byte
range_looks = (refl, refl)

abbrev articles_by : List SortKey → Task
articles_by sort = task.Fetch (record { target = target.Collection 0; query = record no_query { sort = sort; page = no_cursors 1 } })

-- articles 1, 3, 4 and 10, comment 1, a counter and a way back
abbrev articles_and_more : List CellKey
articles_and_more = row 0 (codes "1") ∷ row 0 (codes "3") ∷ row 0 (codes "4") ∷ row 0 (codes "10") ∷ row 1 (codes "1") ∷ cell_key.Counter 0 ∷ cell_key.Back (key_at 0 (codes "1")) (key_at 0 (codes "1")) 0 ∷ []

-- in another order each row of the type, there or not; in that of ids only up to the item after the page
sorted_looks : map (reach blog drafts (articles_by (by_attribute 0 false))) articles_and_more ≡ true ∷ true ∷ true ∷ true ∷ false ∷ false ∷ false ∷ []
unfolding digits escape_byte
sorted_looks = refl

unsorted_looks : map (reach blog drafts (articles_by [])) articles_and_more ≡ true ∷ false ∷ false ∷ false ∷ false ∷ false ∷ false ∷ []
unfolding digits escape_byte
unsorted_looks = refl

-- a collection looks at what is included with its page, not with other rows
page_included : map (reach blog blog_with_people (task.Fetch (record { target = target.Collection 1; query = record no_query { include = Some (path_of (0 ∷ []) ∷ []); page = no_cursors 1 } }))) (row 1 (codes "1") ∷ row 1 (codes "2") ∷ row 2 (codes "ann") ∷ row 2 (codes "bob") ∷ row 0 (codes "1") ∷ []) ≡ true ∷ true ∷ true ∷ false ∷ false ∷ []
unfolding digits escape_byte
page_included = refl

-- ---- parts of a fetch

-- a page of listed keys looks at each of them, shown or not
listed_looks : map (reach_page (listed (key_at 1 (codes "1") ∷ key_at 1 (codes "2") ∷ [])) [] (no_cursors 1) blog_with_people) (row 1 (codes "1") ∷ row 1 (codes "2") ∷ row 1 (codes "3") ∷ cell_key.Counter 1 ∷ []) ≡ true ∷ true ∷ false ∷ false ∷ []
unfolding digits escape_byte
listed_looks = refl

-- a page of a type looks at what the page of its collection does
kind_looks : map (reach_page (of_kind 1) [] (no_cursors 1) blog_with_people) (row 1 (codes "1") ∷ row 1 (codes "2") ∷ row 1 (codes "3") ∷ row 2 (codes "1") ∷ []) ≡ true ∷ true ∷ false ∷ false ∷ []
unfolding digits escape_byte
kind_looks = refl

-- a walk looks at where it begins and at what it finds
walk_looks : map (reach_walk blog (key_at 0 (codes "1") ∷ []) (path_of (1 ∷ 0 ∷ []) ∷ []) blog_with_people) around ≡ map (reach blog blog_with_people (fetch (target.Resource (key_at 0 (codes "1"))) (Some (path_of (1 ∷ 0 ∷ []) ∷ [])))) around
unfolding digits escape_byte
walk_looks = refl
