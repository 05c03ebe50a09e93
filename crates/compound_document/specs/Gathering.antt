-- The rows beside primary ones, and what is looked at to find them.
use Rattle.std.specs.Prelude.{◌≡◌, Bool, false, List, [], ◌∷◌, map, Some, None, Option, option_map}
use Rattle.ident_rules.specs.declared.key.Key.{Key}
use Rattle.resource_schema.specs.declared.schema.Schema.{Schema}
use Rattle.world_cells.specs.declared.keys.CellKey.{CellKey}
use Rattle.world_cells.specs.declared.rows.Row.{Row}
use Rattle.world_cells.specs.World.{World}
use Rattle.task_forms.specs.declared.queries.Path.{Path}
use Rattle.store_model.specs.Included.{included}
use Rattle.store_model.specs.Reach.{reach_walk}

abbrev pub keys_in : List Row → List Key
keys_in rows = map (λ row. row.key) rows

-- the key of a row, if there is one
abbrev pub key_list : Option Row → List Key
key_list None = []
key_list (Some row) = row.key ∷ []

-- the keys, where paths were asked for
abbrev pub asked_keys : Option (List Path) → List Key → List Key
asked_keys None keys = []
asked_keys (Some paths) keys = keys

-- what is included beside rows with these keys, where paths were asked for
abbrev pub gathered : Schema → World → List Key → Option (List Path) → Option (List Row)
gathered schema w keys include = option_map (included schema w keys) include

-- what is looked at to find it
abbrev pub reach_beside : Schema → List Key → Option (List Path) → World → CellKey → Bool
reach_beside schema keys None w k = false
reach_beside schema keys (Some paths) w k = reach_walk schema keys paths w k

-- the rows are those that are included, where paths were asked for
abbrev pub IsGathered : Schema → List Key → Option (List Path) → Option (List Row) → World → Type 0
IsGathered schema keys include rows now = rows ≡ gathered schema now keys include
