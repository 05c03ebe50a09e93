-- What a walk along one path looks at.
use Rattle.std.specs.Prelude.{ℕ, ◌&&◌, ◌||◌, Bool, true, false, List}
use Rattle.ident_rules.specs.declared.key.Key.{Key}
use Rattle.resource_schema.specs.declared.schema.Schema.{Schema}
use Rattle.world_cells.specs.declared.keys.CellKey.{CellKey}
use Rattle.world_cells.specs.declared.keys.CellKey.TheVariants as cell_key
use Rattle.world_cells.specs.World.{World, has_row}
use Rattle.store_model.specs.Included.{has_key, along}
use Rattle.store_model.specs.Reach.{is_row_in}

-- any key
abbrev pub anywhere : CellKey → Bool
anywhere k = true

-- the rows that there are among some keys
abbrev pub is_row_there : List Key → World → CellKey → Bool
is_row_there keys w (cell_key.Row k) = has_key keys k && has_row w k
is_row_there keys w (cell_key.Back to from rel) = false
is_row_there keys w (cell_key.Counter n) = false

-- the primaries, and what the path leads to
abbrev pub reach_along : Schema → List Key → List ℕ → World → CellKey → Bool
reach_along schema primaries path w k = is_row_in primaries k || is_row_there (along schema w path primaries) w k
