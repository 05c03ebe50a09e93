-- The rows that asked paths reach (JSON:API 1.1, "Inclusion of Related Resources").
use Rattle.std.specs.Prelude.{◌≡◌, ℕ, ◌≤◌, ◌&&◌, not, Bool, List, [], ◌∷◌, ◌++◌, map, length, take, IsTrue, false}
use Rattle.std.specs.Option.{option_map_or}
use Rattle.std.specs.List.{list_any, flat_map}
use Rattle.std.specs.FinMap.Entries.{where_key}
use Rattle.ident_rules.specs.declared.key.Key.{Key}
use Rattle.resource_schema.specs.declared.schema.Schema.{Schema}
use Rattle.world_cells.specs.declared.rows.Row.{Row}
use Rattle.task_forms.specs.declared.queries.Path.{Path}
use Rattle.ident_rules.specs.Key.{key_cmp, same_key}
use Rattle.world_cells.specs.Lists.{IsIn}
use Rattle.world_cells.specs.World.{World, row_at, linked, links_to}

-- ---- as a relation

-- the world has a link by the relationship from one key to another
abbrev pub HasLink : Schema → World → Key → ℕ → Key → Type 0
HasLink schema w from rel to = IsTrue (option_map_or (λ row. links_to schema row rel to) (row_at w from) false)

-- one key is reached from another by a path, each of whose steps follows a link
abbrev pub IsReached : Schema → World → Key → List ℕ → Key → Type 0
IsReached schema w from [] to = from ≡ to
IsReached schema w from (rel ∷ path) to = (mid : Key) × HasLink schema w from rel mid × IsReached schema w mid path to

-- a key is reached from one of some keys by a prefix of a path, of at least one step
pub record IsReachedAlong (schema : Schema) (w : World) (path : List ℕ) (keys : List Key) (to : Key) : Type 0 where
  pub from : Key
  pub among : IsIn keys from
  pub steps : ℕ
  pub some_step : 1 ≤ steps
  pub within : steps ≤ length path
  pub reached : IsReached schema w from (take steps path) to

-- a key is reached from a primary by a prefix of an asked path
pub record IsReachedFrom (schema : Schema) (w : World) (primaries : List Key) (paths : List Path) (to : Key) : Type 0 where
  pub path : Path
  pub asked : IsIn paths path
  pub along : IsReachedAlong schema w path.rels primaries to

-- ---- computed

-- one step from each of these keys
abbrev pub step : Schema → World → ℕ → List Key → List Key
step schema w rel keys = flat_map (λ k. option_map_or (λ row. linked schema row rel) (row_at w k) []) keys

-- what the prefixes of a path reach
abbrev pub along : Schema → World → List ℕ → List Key → List Key
along schema w [] keys = []
along schema w (rel ∷ path) keys = let next = step schema w rel keys in next ++ along schema w path next

abbrev pub reached_keys : Schema → World → List Key → List Path → List Key
reached_keys schema w primaries paths = flat_map (λ p. along schema w p.rels primaries) paths

abbrev pub has_key : List Key → Key → Bool
has_key keys k = list_any (same_key k) keys

-- The rows of the world that are reached and not primary. They stand in the order of their keys, since the world's rows do.
abbrev pub included : Schema → World → List Key → List Path → List Row
included schema w primaries paths =
    let reached = reached_keys schema w primaries paths in
    map (λ e. e.1) (where_key key_cmp (λ k. has_key reached k && not (has_key primaries k)) w.rows)
