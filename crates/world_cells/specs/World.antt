-- What a world is, and its cells.
use Rattle.std.specs.Prelude.{ℕ, Bool, false, if◌then◌else◌, List, [], ◌∷◌, map, get_or, is_some, Some, None, Option, unwrap_or, option_map}
use Rattle.std.specs.Option.{option_map_or}
use Rattle.std.specs.List.{list_any}
use Rattle.std.specs.Ordering.{nat_cmp}
use Rattle.std.specs.FinMap.Entries.{find}
use Rattle.ident_rules.specs.declared.key.Key.{Key}
use Rattle.ident_rules.specs.Key.{key_cmp, same_key}
use Rattle.resource_schema.specs.declared.schema.Schema.{Schema}
use Rattle.resource_schema.specs.Kinds.{target_of}
use Rattle.world_cells.specs.declared.rows.Row.{Row}
use Rattle.world_cells.specs.declared.rows.Link.{Link}
use Rattle.world_cells.specs.declared.rows.Link.TheVariants.{One, Many}
use Rattle.world_cells.specs.declared.keys.CellKey.{CellKey}
use Rattle.world_cells.specs.declared.keys.CellKey.TheVariants as cell_key
use Rattle.world_cells.specs.declared.cells.Cell.{Cell}
use Rattle.world_cells.specs.declared.cells.Cell.TheVariants as cell

-- A finite map from keys to rows, and the next ids of those types whose next id is above 1.
-- Both are lists of entries whose keys strictly rise, so that a world computes.
pub record World : Type 0 where
  pub rows : List (Key × Row)
  pub counters : List (ℕ × ℕ)

abbrev pub empty_world : World
empty_world = record { rows = []; counters = [] }

abbrev pub row_at : World → Key → Option Row
row_at w k = find key_cmp k w.rows

abbrev pub has_row : World → Key → Bool
has_row w k = is_some (row_at w k)

-- 1 at first
abbrev pub next_id : World → ℕ → ℕ
next_id w kind = unwrap_or (find nat_cmp kind w.counters) 1

-- ---- links

abbrev pub ids_of : Link → List (List ℕ)
ids_of (One None) = []
ids_of (One (Some x)) = x ∷ []
ids_of (Many xs) = xs

abbrev pub no_link : Link
no_link = One None

abbrev pub link_at : Row → ℕ → Link
link_at row rel = get_or row.links rel no_link

-- the keys that a row's link leads to, in its order
abbrev pub linked : Schema → Row → ℕ → List Key
linked schema row rel = map (λ x. record { kind = target_of schema row.key.kind rel; id = x }) (ids_of (link_at row rel))

abbrev pub links_to : Schema → Row → ℕ → Key → Bool
links_to schema row rel to = list_any (same_key to) (linked schema row rel)

-- ---- cells

-- The cell at a key, or none: a row, a link from one row to another, or a next id above 1.
abbrev pub cell_at : Schema → World → CellKey → Option Cell
cell_at schema w (cell_key.Row k) = option_map cell.Row (row_at w k)
cell_at schema w (cell_key.Back to from rel) = if option_map_or (λ row. links_to schema row rel to) (row_at w from) false then Some cell.Back else None
cell_at schema w (cell_key.Counter kind) = option_map cell.Counter (find nat_cmp kind w.counters)
