-- When a world is valid (of this project, within JSON:API 1.1, "Resource Objects" and "Resource Linkage").
use Rattle.std.specs.Prelude.{◌≡◌, ℕ, ◌<◌, ◌≤◌, Bool, true, false, T, IsTrue, List, length, Some, decimal}
use Rattle.std.specs.List.{IsDistinct, AllZip}
use Rattle.std.specs.Ordering.{nat_cmp, eq_by_cmp}
use Rattle.std.specs.Str.Parse.{AllDigits}
use Rattle.std.specs.FinMap.Entries.{find, is_sorted}
use Rattle.ident_rules.specs.declared.key.Key.{Key}
use Rattle.ident_rules.specs.IdOrder.{id_cmp}
use Rattle.ident_rules.specs.Key.{key_cmp}
use Rattle.resource_schema.specs.declared.schema.Schema.{Schema}
use Rattle.resource_schema.specs.declared.kinds.Relationship.{Relationship}
use Rattle.resource_schema.specs.Kinds.{attributes_of, relationships_of}
use Rattle.resource_schema.specs.Forms.{HasForm}
use Rattle.world_cells.specs.declared.cells.TheConstants.{LAST_NEXT_ID}
use Rattle.world_cells.specs.declared.rows.TheConstants.{LINK_LIMIT}
use Rattle.world_cells.specs.declared.rows.Row.{Row}
use Rattle.world_cells.specs.declared.rows.Link.{Link}
use Rattle.world_cells.specs.declared.rows.Link.TheVariants.{One, Many}
use Rattle.world_cells.specs.World.{World, row_at, has_row, next_id, links_to}

-- whether two ids are one
abbrev pub same_id : List ℕ → List ℕ → Bool
same_id = eq_by_cmp id_cmp

-- one link or none of a to-one relationship; distinct links of a to-many one, at most `LINK_LIMIT`
abbrev pub IsLinkOf : Relationship → Link → Type 0
IsLinkOf r (One x) = r.many ≡ false
IsLinkOf r (Many xs) = (r.many ≡ true) × IsDistinct same_id xs × (length xs ≤ LINK_LIMIT)

-- A row at its own key, of a known type, with the values and links of that type; each link leads to a row, and an id of
-- digits alone is a number that the server gave.
pub record IsValidRow (schema : Schema) (w : World) (k : Key) (row : Row) : Type 0 where
  pub own_key : row.key ≡ k
  pub known : k.kind < length schema
  pub values : AllZip HasForm (attributes_of schema k.kind) row.values
  pub links : AllZip IsLinkOf (relationships_of schema k.kind) row.links
  pub leads_to_rows : (rel : ℕ) (to : Key) → IsTrue (links_to schema row rel to) → IsTrue (has_row w to)
  pub counted : AllDigits 10 k.id → (n : ℕ) × (k.id ≡ decimal n) × (1 ≤ n) × (n < next_id w k.kind)

-- Each row is valid; next ids are of known types, from 1 to `LAST_NEXT_ID`; both lists are in the order of their keys.
pub record IsValid (schema : Schema) (w : World) : Type 0 where
  pub rows_sorted : T (is_sorted key_cmp w.rows)
  pub counters_sorted : T (is_sorted nat_cmp w.counters)
  pub rows : (k : Key) (row : Row) → row_at w k ≡ Some row → IsValidRow schema w k row
  pub counters : (kind n : ℕ) → find nat_cmp kind w.counters ≡ Some n → (kind < length schema) × (1 < n) × (n ≤ LAST_NEXT_ID)
