-- The cell keys that a task may look at (of this project).
use Rattle.std.specs.Prelude.{ℕ, ◌==◌, ◌&&◌, ◌||◌, not, Bool, true, false, List, [], ◌∷◌, ◌++◌, map, Some, None, Option, Result, Ok, Err}
use Rattle.std.specs.Option.{option_map_or}
use Rattle.std.specs.List.{filter, filter_map, flat_map}
use Rattle.std.specs.Ordering.{is_lt}
use Rattle.ident_rules.specs.declared.key.Key.{Key}
use Rattle.resource_schema.specs.declared.schema.Schema.{Schema}
use Rattle.world_cells.specs.declared.keys.CellKey.{CellKey}
use Rattle.world_cells.specs.declared.keys.CellKey.TheVariants as cell_key
use Rattle.world_cells.specs.declared.rows.Row.{Row}
use Rattle.task_forms.specs.declared.operations.Member.{Member}
use Rattle.task_forms.specs.declared.operations.Who.{Who}
use Rattle.task_forms.specs.declared.queries.Page.{Page}
use Rattle.task_forms.specs.declared.queries.Path.{Path}
use Rattle.task_forms.specs.declared.queries.SortKey.{SortKey}
use Rattle.error_objects.specs.declared.refusals.Refusal.{Refusal}
use Rattle.resource_schema.specs.declared.targets.Target.{Target}
use Rattle.task_forms.specs.declared.queries.Query.{Query}
use Rattle.task_forms.specs.declared.tasks.Fetch.{Fetch}
use Rattle.task_forms.specs.declared.tasks.Task.{Task}
use Rattle.task_forms.specs.declared.tasks.Task.TheVariants as task
use Rattle.resource_schema.specs.declared.targets.Target.TheVariants as target
use Rattle.task_forms.specs.declared.operations.Operation.{Operation}
use Rattle.task_forms.specs.declared.operations.Operation.TheVariants.{Create, Update, Remove, SetLinks, AddLinks, DropLinks}
use Rattle.ident_rules.specs.IdOrder.{id_cmp}
use Rattle.world_cells.specs.World.{World, row_at, linked}
use Rattle.store_model.specs.Change.{Lids, Changed, key_of, bind, created_key, apply}
use Rattle.store_model.specs.Pages.{page_of, rows_of, rows_at, first_item, last_item}
use Rattle.store_model.specs.Included.{has_key, included}
use Rattle.store_model.specs.Document.{included_rows}

-- the Row keys among these
abbrev pub is_row_in : List Key → CellKey → Bool
is_row_in keys (cell_key.Row k) = has_key keys k
is_row_in keys (cell_key.Back to from rel) = false
is_row_in keys (cell_key.Counter n) = false

-- the Row keys that pass a test
abbrev pub is_row_of : (Key → Bool) → CellKey → Bool
is_row_of test (cell_key.Row k) = test k
is_row_of test (cell_key.Back to from rel) = false
is_row_of test (cell_key.Counter n) = false

-- ---- collections in id order: from the item before the page to the item after it

-- the greatest id below, and the least above, among a type's rows in id order
abbrev pub id_before : List Row → List ℕ → Option (List ℕ)
id_before rows x = option_map_or (λ row. Some row.key.id) (last_item (filter (λ row. is_lt (id_cmp row.key.id x)) rows)) None

abbrev pub id_after : List Row → List ℕ → Option (List ℕ)
id_after rows x = option_map_or (λ row. Some row.key.id) (first_item (filter (λ row. is_lt (id_cmp x row.key.id)) rows)) None

-- not below the one id, and not above the other, where they are there
abbrev pub not_below : Option (List ℕ) → List ℕ → Bool
not_below low x = option_map_or (λ a. not (is_lt (id_cmp x a))) low true

abbrev pub not_above : Option (List ℕ) → List ℕ → Bool
not_above high x = option_map_or (λ b. not (is_lt (id_cmp b x))) high true

-- behind the one cursor and before the other
abbrev pub past_cursor : Page → List ℕ → Bool
past_cursor page x = option_map_or (λ c. is_lt (id_cmp c.id x)) page.after true && option_map_or (λ c. is_lt (id_cmp x c.id)) page.before true

-- Without a row on the page: each id that is asked for, behind the one cursor and before the other as far as they are given.
-- Else from the item before the page to the item behind it.
abbrev pub in_page_range : List Row → Page → List Row → List ℕ → Bool
in_page_range all page [] x = past_cursor page x
in_page_range all page (first ∷ items) x =
    not_below (id_before all first.key.id) x
    && not_above (option_map_or (λ last. id_after all last.key.id) (last_item (first ∷ items)) None) x

-- in id order the range of the page, else each row of the type
abbrev pub reach_sorted : World → ℕ → Page → List SortKey → Key → Bool
reach_sorted w kind page [] r = let all = rows_of w kind in r.kind == kind && in_page_range all page ((page_of [] page all).rows) r.id
reach_sorted w kind page (s ∷ sort) r = r.kind == kind

-- what a page of a collection looks at
abbrev pub reach_collection : World → ℕ → List SortKey → Page → CellKey → Bool
reach_collection w kind sort page k = is_row_of (reach_sorted w kind page sort) k

-- ---- pages of rows, and walks along paths

-- the rows of a type, or those at some keys
pub data Members : Type 0 where
  of_kind : ℕ → Members
  listed : List Key → Members

abbrev pub member_rows : World → Members → List Row
member_rows w (of_kind kind) = rows_of w kind
member_rows w (listed keys) = rows_at w keys

-- what selecting a page of them looks at
abbrev pub reach_page : Members → List SortKey → Page → World → CellKey → Bool
reach_page (of_kind kind) sort page w k = reach_collection w kind sort page k
reach_page (listed keys) sort page w k = is_row_in keys k

-- what a walk along paths looks at: the primaries, and what it finds
abbrev pub reach_walk : Schema → List Key → List Path → World → CellKey → Bool
reach_walk schema primaries paths w k = is_row_in primaries k || is_row_in (map (λ row. row.key) (included schema w primaries paths)) k

-- ---- fetches

-- the rows that a row's link leads to
abbrev pub linked_keys_of : Schema → Option Row → ℕ → List Key
linked_keys_of schema row rel = option_map_or (λ r. linked schema r rel) row []

-- what a target looks at
abbrev pub reach_target : Schema → World → Query → Target → CellKey → Bool
reach_target schema w query (target.Collection kind) k = reach_collection w kind query.sort query.page k
reach_target schema w query (target.Resource key) k = is_row_in (key ∷ []) k
reach_target schema w query (target.Related key rel) k = is_row_in (key ∷ linked_keys_of schema (row_at w key) rel) k
reach_target schema w query (target.Linkage key rel) k = is_row_in (key ∷ []) k
reach_target schema w query target.Operations k = false

-- what a fetch looks at: its target, and what is included
abbrev pub reach_fetch : Schema → World → Fetch → CellKey → Bool
reach_fetch schema w fetch k = reach_target schema w fetch.query fetch.target k || is_row_in (map (λ row. row.key) (included_rows schema w fetch)) k

-- ---- operations

-- the keys that members name, those of linkages, and that of a target
abbrev pub member_keys : Lids → List Member → List Key
member_keys lids members = filter_map (λ m. key_of lids m.named) members

abbrev pub linked_keys : Lids → List (ℕ × List Member) → List Key
linked_keys lids links = flat_map (λ l. member_keys lids l.1) links

abbrev pub target_keys : Lids → Who → List Key
target_keys lids who = option_map_or (λ key. key ∷ []) (key_of lids who.named) []

-- the ways back from these keys, and the counter of a type
abbrev pub is_back_to : List Key → CellKey → Bool
is_back_to keys (cell_key.Row k) = false
is_back_to keys (cell_key.Back to from rel) = has_key keys to
is_back_to keys (cell_key.Counter n) = false

abbrev pub is_counter_of : ℕ → CellKey → Bool
is_counter_of kind (cell_key.Row k) = false
is_counter_of kind (cell_key.Back to from rel) = false
is_counter_of kind (cell_key.Counter n) = kind == n

-- what an operation looks at
abbrev pub reach_operation : World → Lids → Operation → CellKey → Bool
reach_operation w lids (Create kind id lid values links) k =
    let key = created_key w kind id in
    is_row_in (key ∷ linked_keys (bind lids kind lid key.id) links) k || option_map_or (λ x. false) id (is_counter_of kind k)
reach_operation w lids (Update who values links) k = is_row_in (target_keys lids who ++ linked_keys lids links) k
reach_operation w lids (Remove who) k = is_row_in (target_keys lids who) k || is_back_to (target_keys lids who) k
reach_operation w lids (SetLinks who rel members) k = is_row_in (target_keys lids who ++ member_keys lids members) k
reach_operation w lids (AddLinks who rel members) k = is_row_in (target_keys lids who ++ member_keys lids members) k
reach_operation w lids (DropLinks who rel members) k = is_row_in (target_keys lids who) k

-- what is looked at after an operation, if that is not refused
abbrev pub reach_rest : Result Changed Refusal → (Changed → Bool) → Bool
reach_rest (Err r) rest = false
reach_rest (Ok changed) rest = rest changed

-- up to the first that is refused, each in the world that the earlier ones leave
abbrev pub reach_operations : Schema → World → Lids → List Operation → CellKey → Bool
reach_operations schema w lids [] k = false
reach_operations schema w lids (operation ∷ operations) k =
    reach_operation w lids operation k
    || reach_rest (apply schema w operation lids) (λ changed. reach_operations schema changed.world changed.lids operations k)

-- ---- tasks

-- what a task looks at
abbrev pub reach : Schema → World → Task → CellKey → Bool
reach schema w (task.Fetch fetch) k = reach_fetch schema w fetch k
reach schema w (task.Change operations form) k = reach_operations schema w [] operations k
