-- What links lead to.
use Rattle.std.specs.Prelude.{◌≡◌, ℕ, Bool, true, false, List, map, Option}
use Rattle.std.specs.Option.{option_and_then}
use Rattle.ident_rules.specs.declared.key.Key.{Key}
use Rattle.resource_schema.specs.declared.schema.Schema.{Schema}
use Rattle.world_cells.specs.declared.keys.CellKey.{CellKey}
use Rattle.world_cells.specs.declared.rows.Link.{Link}
use Rattle.world_cells.specs.declared.rows.Link.TheVariants.{One, Many}
use Rattle.world_cells.specs.declared.rows.Row.{Row}
use Rattle.world_cells.specs.World.{World, linked, row_at}
use Rattle.task_forms.specs.declared.queries.Query.{Query}
use Rattle.store_model.specs.declared.pages.Selected.{Selected}
use Rattle.store_model.specs.Pages.{first_item, page_of, rows_at}
use Rattle.store_model.specs.Reach.{is_row_in}
use Rattle.page_select.specs.Chosen.{AreListed}

-- whether a link is that of a to-many relationship
abbrev pub is_many_link : Link → Bool
is_many_link (One x) = false
is_many_link (Many xs) = true

-- resources of one type
abbrev pub of_kind : ℕ → List (List ℕ) → List Key
of_kind kind ids = map (λ x. record { kind = kind; id = x }) ids

-- what is looked at to find the rows that a row's link leads to
abbrev pub reach_linked : Schema → Row → ℕ → World → CellKey → Bool
reach_linked schema row rel now k = is_row_in (linked schema row rel) k

-- a page of them, where their keys are distinct
abbrev pub IsLinkedPage : Schema → Row → ℕ → Query → Selected → World → Type 0
IsLinkedPage schema row rel query s now = AreListed (linked schema row rel) → s ≡ page_of query.sort query.page (rows_at now (linked schema row rel))

-- the first of them
abbrev pub IsLinkedRow : Schema → Row → ℕ → Option Row → World → Type 0
IsLinkedRow schema row rel found now = found ≡ option_and_then (row_at now) (first_item (linked schema row rel))
