-- The order of rows, and one page of them (JSON:API 1.1, "Sorting"; Cursor Pagination profile).
use Rattle.std.specs.Prelude.{ℕ, ℤ, ◌-◌, ◌==◌, ◌&&◌, nat_lt, is_none, is_some, Bool, true, false, List, [], ◌∷◌, map, length, take, drop, get_or, Some, None, Option, pos, refl}
use Rattle.std.specs.Option.{option_map_or}
use Rattle.std.specs.List.{list_any, filter_map, last_or}
use Rattle.std.specs.declared.cmp.Ordering.{Ordering}
use Rattle.std.specs.declared.cmp.Ordering.TheVariants.{Equal}
use Rattle.std.specs.Ordering.{nat_cmp, int_cmp, bool_cmp, then_cmp, flip_args, on, is_lt}
use Rattle.std.specs.Cmp.{IsTotalOrder, nat_cmp_total, int_cmp_total, bool_cmp_total, then_total, on_total, back_total}
use Rattle.std.specs.Cmp.Lexicographic.{slice_cmp, nat_list_cmp_total}
use Rattle.std.specs.FinMap.Entries.{put, where_key}
use Rattle.ident_rules.specs.declared.key.Key.{Key}
use Rattle.resource_schema.specs.declared.values.AttrValue.{AttrValue}
use Rattle.resource_schema.specs.declared.values.AttrValue.TheVariants as value
use Rattle.resource_schema.specs.declared.values.Place.{Place}
use Rattle.world_cells.specs.declared.rows.Row.{Row}
use Rattle.task_forms.specs.declared.queries.SortKey.{SortKey}
use Rattle.task_forms.specs.declared.queries.Page.{Page}
use Rattle.store_model.specs.declared.pages.Selected.{Selected}
use Rattle.ident_rules.specs.IdOrder.{id_cmp, id_cmp_total}
use Rattle.ident_rules.specs.Key.{key_cmp}
use Rattle.world_cells.specs.World.{World, row_at}

-- ---- the order of values (of this project): null first, false before true, integers by size, texts by bytes

abbrev pub form_number : AttrValue → ℕ
form_number value.Null = 0
form_number (value.Int z) = 1
form_number (value.Text t) = 2
form_number (value.Bool b) = 3

abbrev pub int_part : AttrValue → ℤ
int_part value.Null = pos 0
int_part (value.Int z) = z
int_part (value.Text t) = pos 0
int_part (value.Bool b) = pos 0

abbrev pub text_part : AttrValue → List ℕ
text_part value.Null = []
text_part (value.Int z) = []
text_part (value.Text t) = t
text_part (value.Bool b) = []

abbrev pub bool_part : AttrValue → Bool
bool_part value.Null = false
bool_part (value.Int z) = false
bool_part (value.Text t) = false
bool_part (value.Bool b) = b

-- by form, and then by the value
abbrev pub value_cmp : AttrValue → AttrValue → Ordering
value_cmp = then_cmp (on form_number nat_cmp) (then_cmp (on int_part int_cmp) (then_cmp (on text_part (slice_cmp nat_cmp)) (on bool_part bool_cmp)))

-- ---- the order of places: the sort values, each in its direction, and then the id

abbrev pub leading_value : List AttrValue → AttrValue
leading_value [] = value.Null
leading_value (v ∷ values) = v

-- greater values first where the direction is descending
abbrev pub in_direction : Bool → AttrValue → AttrValue → Ordering
in_direction true = flip_args value_cmp
in_direction false = value_cmp

-- by the first value, and then by the others, each in its direction
abbrev pub values_cmp : List SortKey → List AttrValue → List AttrValue → Ordering
values_cmp [] = λ x y. Equal
values_cmp (key ∷ sort) = then_cmp (on leading_value (in_direction key.descending)) (on (drop 1) (values_cmp sort))

-- by the values, and then by the id
abbrev pub place_cmp : List SortKey → Place → Place → Ordering
place_cmp sort = then_cmp (on (λ p. p.values) (values_cmp sort)) (on (λ p. p.id) id_cmp)

-- where a row stands: its values of the sort keys, and its id
abbrev pub place_of : List SortKey → Row → Place
place_of sort row = record { values = map (λ key. get_or row.values key.attribute value.Null) sort; id = row.key.id }

-- the rows by their places
abbrev pub by_place : List SortKey → List Row → List (Place × Row)
by_place sort [] = []
by_place sort (row ∷ rows) = put (place_cmp sort) (place_of sort row) row (by_place sort rows)

-- the rows in their order
abbrev pub sorted : List SortKey → List Row → List Row
sorted sort rows = map (λ e. e.1) (by_place sort rows)

-- ---- one page ("Pagination")

-- the last n items
abbrev pub last_items : {A : Type 0} → ℕ → List A → List A
last_items n xs = drop (length xs - n) xs

abbrev pub first_item : {A : Type 0} → List A → Option A
first_item [] = None
first_item (x ∷ xs) = Some x

abbrev pub last_item : {A : Type 0} → List A → Option A
last_item = last_or None

-- behind a cursor, and ahead of one, where it is given
abbrev pub is_behind_cursor : List SortKey → Option Place → Place → Bool
is_behind_cursor sort None p = true
is_behind_cursor sort (Some cursor) p = is_lt (place_cmp sort cursor p)

abbrev pub is_ahead_of_cursor : List SortKey → Option Place → Place → Bool
is_ahead_of_cursor sort None p = true
is_ahead_of_cursor sort (Some cursor) p = is_lt (place_cmp sort p cursor)

-- the items behind the one cursor and ahead of the other, as far as they are given
abbrev pub asked_for : List SortKey → Page → List (Place × Row) → List (Place × Row)
asked_for sort page all = where_key (place_cmp sort) (λ p. is_behind_cursor sort page.after p && is_ahead_of_cursor sort page.before p) all

-- `page[before]` alone is given, so that the page ends at a cursor
abbrev pub ends_at_cursor : Page → Bool
ends_at_cursor page = is_none page.after && is_some page.before

-- both cursors are given ("Range Pagination")
abbrev pub is_range : Page → Bool
is_range page = is_some page.after && is_some page.before

-- the last n items, or the first n
abbrev pub cut_to : {A : Type 0} → Bool → ℕ → List A → List A
cut_to true n xs = last_items n xs
cut_to false n xs = take n xs

-- Of the items that are asked for the last ones where the page ends at a cursor, else the first (Cursor Pagination profile, "page[after] and page[before]").
abbrev pub slice_of : List SortKey → Page → List (Place × Row) → List (Place × Row)
slice_of sort page all = cut_to (ends_at_cursor page) page.size (asked_for sort page all)

-- whether an item stands before the first, and behind the last
abbrev pub any_before : List SortKey → List (Place × Row) → List (Place × Row) → Bool
any_before sort items all = option_map_or (λ e. list_any (λ other. is_lt (place_cmp sort other.0 e.0)) all) (first_item items) false

abbrev pub any_after : List SortKey → List (Place × Row) → List (Place × Row) → Bool
any_after sort items all = option_map_or (λ e. list_any (λ other. is_lt (place_cmp sort e.0 other.0)) all) (last_item items) false

-- a range has more items than the page shows
abbrev pub is_truncated : List SortKey → Page → List (Place × Row) → Bool
is_truncated sort page all = is_range page && nat_lt page.size (length (asked_for sort page all))

-- one page of some rows; without a row, nothing stands before or behind it
abbrev pub page_of : List SortKey → Page → List Row → Selected
page_of sort page rows =
    let all = by_place sort rows in
    let items = slice_of sort page all in
    record { rows = map (λ e. e.1) items; before = any_before sort items all; after = any_after sort items all; truncated = is_truncated sort page all }

-- the rows of a type, by id
abbrev pub rows_of : World → ℕ → List Row
rows_of w kind = map (λ e. e.1) (where_key key_cmp (λ k. k.kind == kind) w.rows)

-- the rows at these keys
abbrev pub rows_at : World → List Key → List Row
rows_at w keys = filter_map (row_at w) keys

-- ---- these orders are total

pub value_cmp_total : IsTotalOrder value_cmp
value_cmp_total = then_total (on_total form_number nat_cmp_total) (then_total (on_total int_part int_cmp_total) (then_total (on_total text_part nat_list_cmp_total) (on_total bool_part bool_cmp_total)))

pub direction_total : (descending : Bool) → IsTotalOrder (in_direction descending)
direction_total true = back_total value_cmp_total
direction_total false = value_cmp_total

pub values_cmp_total : (sort : List SortKey) → IsTotalOrder (values_cmp sort)
values_cmp_total [] = record { antisymm = λ x y. refl; trans = λ x y z a b. a; congr = λ x y z e. refl }
values_cmp_total (key ∷ sort) = then_total (on_total leading_value (direction_total key.descending)) (on_total (drop 1) (values_cmp_total sort))

pub place_cmp_total : (sort : List SortKey) → IsTotalOrder (place_cmp sort)
place_cmp_total sort = then_total (on_total (λ p. p.values) (values_cmp_total sort)) (on_total (λ p. p.id) id_cmp_total)
