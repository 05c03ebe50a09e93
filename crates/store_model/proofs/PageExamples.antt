-- Computed examples of orders, of pages and of what is included.
use Rattle.std.specs.Prelude.{◌≡◌, ℕ, Bool, List, [], ◌∷◌, true, false, Some, None, Option, codes, map, pos, negsuc}
use Rattle.std.proofs.Common.{refl}
use Rattle.std.specs.Fmt.{digits}
use Rattle.std.specs.Ordering.{is_eq, is_lt, is_gt}
use Rattle.ident_rules.specs.declared.key.Key.{Key}
use Rattle.resource_schema.specs.declared.values.AttrValue.{AttrValue}
use Rattle.resource_schema.specs.declared.values.AttrValue.TheVariants as value
use Rattle.resource_schema.specs.declared.values.Place.{Place}
use Rattle.resource_schema.specs.declared.targets.Target.TheVariants as target
use Rattle.world_cells.specs.World.{World, empty_world}
use Rattle.task_forms.specs.Queries.{no_query}
use Rattle.task_forms.specs.declared.operations.Operation.TheVariants.{Create}
use Rattle.task_forms.specs.declared.queries.Page.{Page}
use Rattle.task_forms.specs.declared.queries.SortKey.{SortKey}
use Rattle.task_forms.specs.declared.tasks.Task.TheVariants as task
use Rattle.json.specs.Print.{escape_byte}
use Rattle.form_urlencoded.proofs.OnLiterals.{form_urlencoded_on_literals}
use Rattle.base64.proofs.OnLiterals.{base64_on_literals}
use Rattle.store_model.specs.Answer.{answer, effect}
use Rattle.store_model.specs.Included.{included}
use Rattle.store_model.specs.declared.pages.Selected.{Selected}
use Rattle.store_model.specs.Pages.{value_cmp, place_cmp, place_of, page_of, rows_of, rows_at}
use Rattle.store_model.proofs.Examples.{blog, no_cursors}
use Rattle.store_model.proofs.Rows.{key_at, one_member_of, member_of, path_of, blog_with_people, titled, by_attribute, ids_of_rows, list_of, after_id, nodes}

-- ---- the order of values

abbrev below : AttrValue → AttrValue → Bool
below a b = is_lt (value_cmp a b)

-- null is below each value, and no value is below null
null_below : (map (below value.Null) (value.Int (negsuc 4) ∷ value.Int (pos 0) ∷ value.Text [] ∷ value.Bool false ∷ []) ≡ true ∷ true ∷ true ∷ true ∷ []) × (map (λ v. below v value.Null) (value.Null ∷ value.Int (negsuc 4) ∷ value.Text [] ∷ value.Bool false ∷ []) ≡ false ∷ false ∷ false ∷ false ∷ [])
null_below = (refl, refl)

-- -5, -1, 0, 3, 10
ints_by_size : map (below (value.Int (pos 3))) (value.Int (negsuc 4) ∷ value.Int (pos 0) ∷ value.Int (pos 3) ∷ value.Int (pos 10) ∷ []) ≡ false ∷ false ∷ false ∷ true ∷ []
ints_by_size = refl

negative_ints : (below (value.Int (negsuc 4)) (value.Int (negsuc 0)) ≡ true) × (below (value.Int (negsuc 0)) (value.Int (pos 0)) ≡ true) × (below (value.Int (negsuc 0)) (value.Int (negsuc 4)) ≡ false)
negative_ints = (refl, refl, refl)

-- by bytes: "", "B", "a", "aa", "b"
texts_by_bytes : map (below (value.Text (codes "a"))) (value.Text [] ∷ value.Text (codes "B") ∷ value.Text (codes "a") ∷ value.Text (codes "aa") ∷ value.Text (codes "b") ∷ []) ≡ false ∷ false ∷ false ∷ true ∷ true ∷ []
texts_by_bytes = refl

-- a longer text is not above for its length
longer_below : below (value.Text (codes "aa")) (value.Text (codes "b")) ≡ true
longer_below = refl

false_below_true : (below (value.Bool false) (value.Bool true) ≡ true) × (below (value.Bool true) (value.Bool false) ≡ false)
false_below_true = (refl, refl)

-- only equal values tie, of two forms none
ties : (map (λ v. is_eq (value_cmp v v)) (value.Null ∷ value.Int (negsuc 4) ∷ value.Text (codes "a") ∷ value.Bool true ∷ []) ≡ true ∷ true ∷ true ∷ true ∷ []) × (map (λ v. is_eq (value_cmp (value.Int (pos 0)) v)) (value.Null ∷ value.Text [] ∷ value.Bool false ∷ value.Int (pos 1) ∷ []) ≡ false ∷ false ∷ false ∷ false ∷ []) × (map (λ v. is_eq (value_cmp (value.Text []) v)) (value.Null ∷ value.Bool false ∷ value.Text (codes "a") ∷ []) ≡ false ∷ false ∷ false ∷ [])
ties = (refl, refl, refl)

-- ---- the order of places

-- articles 1 to 4 with a draft, a title and views
abbrev counted : World
counted = effect blog empty_world (list_of (
    Create 0 None None (value.Bool true ∷ value.Text (codes "a") ∷ value.Int (pos 10) ∷ []) []
    ∷ Create 0 None None (value.Null ∷ value.Text (codes "a") ∷ value.Int (negsuc 4) ∷ []) []
    ∷ Create 0 None None (value.Null ∷ value.Text (codes "b") ∷ value.Int (pos 3) ∷ []) []
    ∷ Create 0 None None (value.Bool true ∷ value.Text (codes "b") ∷ value.Int (negsuc 4) ∷ []) []
    ∷ []))

abbrev counted_page : List SortKey → Page → List (List ℕ)
counted_page sort page = ids_of_rows (page_of sort page (rows_of counted 0))

-- views -5, -5, 3, 10, and down; equal ones by id both ways
by_views : (counted_page (by_attribute 2 false) (no_cursors 50) ≡ codes "2" ∷ codes "4" ∷ codes "3" ∷ codes "1" ∷ []) × (counted_page (by_attribute 2 true) (no_cursors 50) ≡ codes "1" ∷ codes "3" ∷ codes "2" ∷ codes "4" ∷ [])
unfolding digits escape_byte
by_views = (refl, refl)

abbrev draft_and_title : Bool → Bool → List SortKey
draft_and_title first second = record { attribute = 0; descending = first } ∷ record { attribute = 1; descending = second } ∷ []

-- sort=draft,-title and sort=-draft,title: the first key decides, and then the second in its own direction
two_keys : (counted_page (draft_and_title false true) (no_cursors 50) ≡ codes "3" ∷ codes "2" ∷ codes "4" ∷ codes "1" ∷ []) × (counted_page (draft_and_title true false) (no_cursors 50) ≡ codes "1" ∷ codes "4" ∷ codes "2" ∷ codes "3" ∷ [])
unfolding digits escape_byte
two_keys = (refl, refl)

-- the values of the sort keys in their order, and the id
place_of_row : map (place_of (record { attribute = 2; descending = true } ∷ record { attribute = 0; descending = false } ∷ [])) (rows_at counted (key_at 0 (codes "3") ∷ [])) ≡ record { values = value.Int (pos 3) ∷ value.Null ∷ []; id = codes "3" } ∷ []
unfolding digits escape_byte
place_of_row = refl

-- ids by length and then by bytes, where nothing else decides
ids_decide : (is_lt (place_cmp [] (after_id (codes "9")) (after_id (codes "10"))) ≡ true) × (is_gt (place_cmp [] (after_id (codes "10")) (after_id (codes "9"))) ≡ true) × (is_eq (place_cmp [] (after_id (codes "9")) (after_id (codes "9"))) ≡ true)
ids_decide = (refl, refl, refl)

-- ---- pages

abbrev titled_place : List ℕ → List ℕ → Option Place
titled_place title id = Some (record { values = value.Text title ∷ []; id = id })

abbrev titled_page : Bool → ℕ → Option Place → Option Place → Selected
titled_page descending size after before = page_of (by_attribute 1 descending) (record { size = size; after = after; before = before }) (rows_of titled 0)

abbrev sides : Selected → List (List ℕ) × Bool × Bool
sides page = (ids_of_rows page, page.before, page.after)

-- titles b, a, b: the order is 2, 1, 3. A cursor need not be a row's place.
behind_place : (sides (titled_page false 1 (titled_place (codes "a") (codes "9")) None) ≡ (codes "1" ∷ [], true, true)) × (sides (titled_page false 2 (titled_place (codes "a") (codes "9")) None) ≡ (codes "1" ∷ codes "3" ∷ [], true, false)) × (sides (titled_page false 2 (titled_place (codes "b") (codes "1")) None) ≡ (codes "3" ∷ [], true, false))
unfolding digits escape_byte
behind_place = (refl, refl, refl)

-- the last ones before it, in the same order
before_place : (sides (titled_page false 1 None (titled_place (codes "b") (codes "3"))) ≡ (codes "1" ∷ [], true, true)) × (sides (titled_page false 2 None (titled_place (codes "b") (codes "3"))) ≡ (codes "2" ∷ codes "1" ∷ [], false, true)) × (sides (titled_page false 5 None (titled_place (codes "b") (codes "4"))) ≡ (codes "2" ∷ codes "1" ∷ codes "3" ∷ [], false, false))
unfolding digits escape_byte
before_place = (refl, refl, refl)

-- titles down: the order is 1, 3, 2
down_from_place : (sides (titled_page true 1 (titled_place (codes "b") (codes "1")) None) ≡ (codes "3" ∷ [], true, true)) × (sides (titled_page true 2 (titled_place (codes "b") (codes "1")) None) ≡ (codes "3" ∷ codes "2" ∷ [], true, false)) × (sides (titled_page true 1 None (titled_place (codes "a") (codes "2"))) ≡ (codes "3" ∷ [], true, true))
unfolding digits escape_byte
down_from_place = (refl, refl, refl)

-- without a cursor the first; the whole has nothing on either side
first_items : (sides (titled_page false 2 None None) ≡ (codes "2" ∷ codes "1" ∷ [], false, true)) × (sides (titled_page false 3 None None) ≡ (codes "2" ∷ codes "1" ∷ codes "3" ∷ [], false, false))
unfolding digits escape_byte
first_items = (refl, refl)

-- a page without a row has no side, though rows stand there
no_sides : (sides (titled_page false 2 (titled_place (codes "c") (codes "1")) None) ≡ ([], false, false)) × (sides (titled_page false 2 None (titled_place (codes "a") (codes "2"))) ≡ ([], false, false))
unfolding digits escape_byte
no_sides = (refl, refl)

abbrev range_page : ℕ → Option Place → Option Place → List (List ℕ) × Bool × Bool × Bool
range_page size after before = let page = titled_page false size after before in (ids_of_rows page, page.before, page.after, page.truncated)

-- both cursors: the first ones between them, cut short where more stand there. The order is 2, 1, 3.
range_of_one : range_page 1 (titled_place (codes "a") (codes "2")) (titled_place (codes "b") (codes "3")) ≡ (codes "1" ∷ [], true, true, false)
unfolding digits escape_byte
range_of_one = refl

-- the cursors themselves are outside
range_of_none : range_page 1 (titled_place (codes "a") (codes "2")) (titled_place (codes "b") (codes "1")) ≡ ([], false, false, false)
unfolding digits escape_byte
range_of_none = refl

-- two between them: a page of one is cut short, and one of two is not
range_cut_short : (range_page 1 (titled_place (codes "a") (codes "1")) (titled_place (codes "b") (codes "3")) ≡ (codes "2" ∷ [], false, true, true)) × (range_page 2 (titled_place (codes "a") (codes "1")) (titled_place (codes "b") (codes "3")) ≡ (codes "2" ∷ codes "1" ∷ [], false, true, false))
unfolding digits escape_byte
range_cut_short = (refl, refl)

-- up to the last one and past it
range_to_the_end : (range_page 2 (titled_place (codes "a") (codes "2")) (titled_place (codes "b") (codes "4")) ≡ (codes "1" ∷ codes "3" ∷ [], true, false, false)) × (range_page 1 (titled_place (codes "a") (codes "2")) (titled_place (codes "b") (codes "4")) ≡ (codes "1" ∷ [], true, true, true))
unfolding digits escape_byte
range_to_the_end = (refl, refl)

-- cursors the wrong way round, and twice the same
range_reversed : (range_page 2 (titled_place (codes "b") (codes "3")) (titled_place (codes "a") (codes "2")) ≡ ([], false, false, false)) × (range_page 2 (titled_place (codes "b") (codes "1")) (titled_place (codes "b") (codes "1")) ≡ ([], false, false, false))
unfolding digits escape_byte
range_reversed = (refl, refl)

-- one cursor is no range, whatever is left out
no_range : (range_page 1 (titled_place (codes "a") (codes "1")) None ≡ (codes "2" ∷ [], false, true, false)) × (range_page 1 None (titled_place (codes "b") (codes "3")) ≡ (codes "1" ∷ [], true, true, false)) × (range_page 1 None None ≡ (codes "2" ∷ [], false, true, false))
unfolding digits escape_byte
no_range = (refl, refl, refl)

-- the rows of one type, by id
rows_by_type : (map (λ row. row.key) (rows_of blog_with_people 1) ≡ key_at 1 (codes "1") ∷ key_at 1 (codes "2") ∷ []) × (map (λ row. row.key) (rows_of blog_with_people 2) ≡ key_at 2 (codes "ann") ∷ key_at 2 (codes "bob") ∷ [])
unfolding digits escape_byte
rows_by_type = (refl, refl)

-- the rows at some keys, in the order of these
rows_there : map (λ row. row.key) (rows_at blog_with_people (key_at 2 (codes "bob") ∷ key_at 2 (codes "eve") ∷ key_at 1 (codes "1") ∷ [])) ≡ key_at 2 (codes "bob") ∷ key_at 1 (codes "1") ∷ []
unfolding digits escape_byte
rows_there = refl

-- a page of views in the middle: the links have the cursors of its first and last, and the request's other pairs
views_page : (answer blog counted (task.Fetch (record { target = target.Collection 0; query = record no_query { pairs = (codes "sort", codes "views") ∷ (codes "fields[articles]", []) ∷ (codes "page[size]", codes "2") ∷ []; fields = (0, []) ∷ []; sort = by_attribute 2 false; page = record { size = 2; after = Some (record { values = value.Int (negsuc 4) ∷ []; id = codes "2" }); before = None } } }))).body ≡ codes "{\"data\":[{\"id\":\"4\",\"links\":{\"self\":\"/articles/4\"},\"type\":\"articles\"},{\"id\":\"3\",\"links\":{\"self\":\"/articles/3\"},\"type\":\"articles\"}],\"links\":{\"next\":\"/articles?fields%5Barticles%5D=&page%5Bafter%5D=WzMsIjMiXQ&page%5Bsize%5D=2&sort=views\",\"prev\":\"/articles?fields%5Barticles%5D=&page%5Bbefore%5D=Wy01LCI0Il0&page%5Bsize%5D=2&sort=views\"}}"
unfolding digits escape_byte form_urlencoded_on_literals base64_on_literals
views_page = refl

-- a page of a to-many relationship has links of its own path
related_page : (answer blog blog_with_people (task.Fetch (record { target = target.Related (key_at 0 (codes "1")) 1; query = record no_query { pairs = (codes "page[size]", codes "1") ∷ []; fields = (1, []) ∷ []; page = no_cursors 1 } }))).body ≡ codes "{\"data\":[{\"id\":\"1\",\"links\":{\"self\":\"/comments/1\"},\"type\":\"comments\"}],\"links\":{\"next\":\"/articles/1/comments?page%5Bafter%5D=WyIxIl0&page%5Bsize%5D=1\",\"prev\":null}}"
unfolding digits escape_byte form_urlencoded_on_literals base64_on_literals
related_page = refl

-- ---- what is included

abbrev included_keys : List Key → List (List ℕ) → List Key
included_keys primaries paths = map (λ row. row.key) (included blog blog_with_people primaries (map path_of paths))

-- the comments on the way to their authors too, each row once, by type and id
whole_path : included_keys (key_at 0 (codes "1") ∷ []) ((1 ∷ 0 ∷ []) ∷ (0 ∷ []) ∷ []) ≡ key_at 1 (codes "1") ∷ key_at 1 (codes "2") ∷ key_at 2 (codes "ann") ∷ key_at 2 (codes "bob") ∷ []
unfolding digits escape_byte
whole_path = refl

one_step : included_keys (key_at 0 (codes "1") ∷ []) ((1 ∷ []) ∷ []) ≡ key_at 1 (codes "1") ∷ key_at 1 (codes "2") ∷ []
unfolding digits escape_byte
one_step = refl

-- from each primary, but no primary
two_primaries : included_keys (key_at 1 (codes "2") ∷ key_at 2 (codes "ann") ∷ key_at 1 (codes "1") ∷ []) ((0 ∷ []) ∷ []) ≡ key_at 2 (codes "bob") ∷ []
unfolding digits escape_byte
two_primaries = refl

nothing_asked : (included_keys (key_at 0 (codes "1") ∷ []) [] ≡ []) × (included_keys [] ((1 ∷ 0 ∷ []) ∷ []) ≡ []) × (included_keys (key_at 0 (codes "7") ∷ []) ((1 ∷ 0 ∷ []) ∷ []) ≡ [])
unfolding digits escape_byte
nothing_asked = (refl, refl, refl)

-- a circle of three nodes, a to b to c to a
abbrev circle : World
circle = effect nodes empty_world (list_of (
    Create 0 (Some (codes "c")) None [] []
    ∷ Create 0 (Some (codes "b")) None [] ((1, one_member_of 0 (codes "c")) ∷ [])
    ∷ Create 0 (Some (codes "a")) None [] ((0, member_of 0 0 (codes "b") ∷ member_of 0 1 (codes "a") ∷ []) ∷ (1, one_member_of 0 (codes "b")) ∷ [])
    ∷ []))

-- as many steps as asked, and the primary itself is left out
circle_steps : (map (λ row. row.key.id) (included nodes circle (key_at 0 (codes "a") ∷ []) (path_of (1 ∷ []) ∷ [])) ≡ codes "b" ∷ []) × (map (λ row. row.key.id) (included nodes circle (key_at 0 (codes "a") ∷ []) (path_of (0 ∷ 1 ∷ 1 ∷ []) ∷ [])) ≡ codes "b" ∷ codes "c" ∷ [])
unfolding digits escape_byte
circle_steps = (refl, refl)
