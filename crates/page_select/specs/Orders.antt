-- Rows and cursors in the order of sort keys.
use Rattle.std.specs.Prelude.{◌≡◌, ⊤, Bool, List, [], ◌∷◌}
use Rattle.std.specs.declared.cmp.Ordering.TheVariants.{Less}
use Rattle.resource_schema.specs.declared.values.Place.{Place}
use Rattle.world_cells.specs.declared.rows.Row.{Row}
use Rattle.task_forms.specs.declared.queries.SortKey.{SortKey}
use Rattle.store_model.specs.Valid.{same_id}
use Rattle.store_model.specs.Pages.{place_cmp, place_of}
use Rattle.page_select.specs.declared.orders.Standing.{Standing}
use Rattle.page_select.specs.declared.orders.Standing.TheVariants as standing

-- where a row stands, or a cursor
abbrev pub place_in : List SortKey → Standing → Place
place_in sort (standing.AtRow row) = place_of sort row.now
place_in sort (standing.AtCursor place) = place.now

-- rows with one id
abbrev pub same_row : Row → Row → Bool
same_row a b = same_id a.key.id b.key.id

-- each stands before the next
abbrev pub AreInOrder : List SortKey → List Row → Type 0
AreInOrder sort [] = ⊤
AreInOrder sort (r ∷ []) = ⊤
AreInOrder sort (r ∷ s ∷ rows) = (place_cmp sort (place_of sort r) (place_of sort s) ≡ Less) × AreInOrder sort (s ∷ rows)
