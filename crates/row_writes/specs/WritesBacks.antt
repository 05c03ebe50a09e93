-- What the writes of one row leave at the ways back to it.
use Rattle.std.specs.Prelude.{◌≡◌, ℕ, Bool, ◌≤◌, length, nat_lt, not, ◌&&◌, cond, List, [], map, get_or, Some, None, Option}
use Rattle.std.specs.List.{list_any}
use Rattle.ident_rules.specs.declared.key.Key.{Key}
use Rattle.ident_rules.specs.Key.{same_key}
use Rattle.resource_schema.specs.declared.schema.Schema.{Schema}
use Rattle.resource_schema.specs.Kinds.{relationships_of, target_of}
use Rattle.world_cells.specs.declared.rows.Link.{Link}
use Rattle.world_cells.specs.declared.rows.Row.{Row}
use Rattle.world_cells.specs.declared.keys.CellKey.{CellKey}
use Rattle.world_cells.specs.declared.keys.CellKey.TheVariants as cell_key
use Rattle.world_cells.specs.declared.cells.Cell.{Cell}
use Rattle.world_cells.specs.declared.cells.Cell.TheVariants as cell
use Rattle.world_cells.specs.declared.sets.Written.{Written}
use Rattle.world_cells.specs.CellOrder.{same_cell_key}
use Rattle.world_cells.specs.Reads.{overlay}
use Rattle.world_cells.specs.World.{World, row_at, ids_of, no_link}

-- ---- one link

-- the way back to a row from an id of a type
abbrev pub back_from : ℕ → Key → ℕ → List ℕ → CellKey
back_from kind from rel id = cell_key.Back (record { kind = kind; id = id }) from rel

-- whether a cell key is the way back from one of these ids
abbrev pub is_back_of : ℕ → Key → ℕ → List (List ℕ) → CellKey → Bool
is_back_of kind from rel ids k = list_any (λ id. same_cell_key k (back_from kind from rel id)) ids

-- the cell stands at the way back from each id that is not kept, and every other key is as it was
abbrev pub WritesBacks : ℕ → Key → ℕ → List (List ℕ) → List (List ℕ) → Option Cell → List Written → List Written → Type 0
WritesBacks kind from rel ids kept c before after =
    (f : CellKey → Option Cell) (k : CellKey) → overlay f after k ≡ cond (is_back_of kind from rel ids k && not (is_back_of kind from rel kept k)) c (overlay f before k)

-- a way back that was and now is, or not
abbrev pub turned : Bool → Bool → Option Cell → Option Cell
turned was is c = cond (is && not was) (Some cell.Back) (cond (was && not is) None c)

-- a link's ids are old ones, and then new ones
abbrev pub TurnsBacks : ℕ → Key → ℕ → List (List ℕ) → List (List ℕ) → List Written → List Written → Type 0
TurnsBacks kind from rel old new before after =
    (f : CellKey → Option Cell) (k : CellKey) → overlay f after k ≡ turned (is_back_of kind from rel old k) (is_back_of kind from rel new k) (overlay f before k)

-- ---- all links

-- the ids of the link of that number; none where there is no such link
abbrev pub ids_at : List Link → ℕ → List (List ℕ)
ids_at links rel = ids_of (get_or links rel no_link)

-- whether it leads to a key
abbrev pub leads_to : Schema → ℕ → List Link → ℕ → Key → Bool
leads_to schema kind links rel to = list_any (same_key to) (map (λ x. record { kind = target_of schema kind rel; id = x }) (ids_at links rel))

-- what stands at a cell key after the first links of a row were changed
abbrev pub rewritten : Schema → Key → List Link → List Link → ℕ → CellKey → Option Cell → Option Cell
rewritten schema key old new n (cell_key.Row q) c = c
rewritten schema key old new n (cell_key.Back to from rel) c =
    cond (same_key from key && nat_lt rel n) (turned (leads_to schema key.kind old rel to) (leads_to schema key.kind new rel to) c) c
rewritten schema key old new n (cell_key.Counter m) c = c

-- the first links of a row are old ones, and then new ones
abbrev pub RewritesLinks : Schema → Key → List Link → List Link → ℕ → List Written → List Written → Type 0
RewritesLinks schema key old new n before after =
    (f : CellKey → Option Cell) (k : CellKey) → overlay f after k ≡ rewritten schema key old new n k (overlay f before k)

-- ---- rows

-- the links of a row that may be there
abbrev pub links_of : Option Row → List Link
links_of None = []
links_of (Some row) = row.links

-- in a world the old row, if there is one, stands at the key of the new one, which has no more links than its type has relationships
abbrev pub Replaces : Schema → Option Row → Row → World → Type 0
Replaces schema old new now = (row_at now new.key ≡ old) × (length new.links ≤ length (relationships_of schema new.key.kind))
