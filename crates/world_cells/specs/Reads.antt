-- What a read set covers, worlds that agree on it, and what writes lead to.
use Rattle.std.specs.Prelude.{⊤, ◌≡◌, ℕ, ◌==◌, ◌&&◌, ◌||◌, not, Bool, true, false, if◌then◌else◌, IsTrue, List, [], ◌∷◌, Some, None, Option, map, unwrap_or}
use Rattle.std.specs.Option.{option_map_or}
use Rattle.std.specs.List.{list_any}
use Rattle.std.specs.FinMap.Entries.{find}
use Rattle.std.specs.declared.cmp.Ordering.{Ordering}
use Rattle.std.specs.Ordering.{is_lt, is_gt, nat_cmp, then_cmp, on}
use Rattle.ident_rules.specs.declared.key.Key.{Key}
use Rattle.world_cells.specs.declared.keys.CellKey.{CellKey}
use Rattle.world_cells.specs.declared.keys.CellKey.TheVariants as cell_key
use Rattle.world_cells.specs.declared.cells.Cell.{Cell}
use Rattle.world_cells.specs.declared.spans.Edge.{Edge}
use Rattle.world_cells.specs.declared.spans.Edge.TheVariants as edge
use Rattle.world_cells.specs.declared.spans.Span.{Span}
use Rattle.world_cells.specs.declared.spans.Span.TheVariants as span
use Rattle.world_cells.specs.declared.sets.Part.{Part}
use Rattle.world_cells.specs.declared.sets.ReadSet.{ReadSet}
use Rattle.world_cells.specs.declared.sets.Written.{Written}
use Rattle.ident_rules.specs.IdOrder.{id_cmp}
use Rattle.ident_rules.specs.Key.{key_cmp, same_key}
use Rattle.world_cells.specs.CellOrder.{cell_key_cmp, same_cell_key}

-- the cells of a world or of a store, by their keys
abbrev pub Cells : Type 0
Cells = CellKey → Option Cell

-- ---- spans

abbrev pub is_above : Edge → List ℕ → Bool
is_above edge.End x = true
is_above (edge.Open low) x = is_lt (id_cmp low x)
is_above (edge.Closed low) x = not (is_gt (id_cmp low x))

abbrev pub is_below : Edge → List ℕ → Bool
is_below edge.End x = true
is_below (edge.Open high) x = is_lt (id_cmp x high)
is_below (edge.Closed high) x = not (is_gt (id_cmp x high))

-- by a link's row, and then its relationship
abbrev pub link_cmp : Key × ℕ → Key × ℕ → Ordering
link_cmp = then_cmp (on (λ l. l.0) key_cmp) (on (λ l. l.1) nat_cmp)

abbrev pub in_span : Span → CellKey → Bool
in_span (span.Rows kind low high) (cell_key.Row k) = k.kind == kind && is_above low k.id && is_below high k.id
in_span (span.Rows kind low high) (cell_key.Back to from rel) = false
in_span (span.Rows kind low high) (cell_key.Counter n) = false
in_span (span.Backs to after) (cell_key.Row k) = false
in_span (span.Backs to after) (cell_key.Back t from rel) = same_key to t && option_map_or (λ l. is_lt (link_cmp l (from, rel))) after true
in_span (span.Backs to after) (cell_key.Counter n) = false

-- without a found key the whole span, else its keys up to that one, or from the top down to it
abbrev pub in_part : Part → CellKey → Bool
in_part part k = in_span part.span k && option_map_or (λ f. if part.from_top then not (is_lt (cell_key_cmp k f)) else not (is_lt (cell_key_cmp f k))) part.found true

abbrev pub covers : ReadSet → CellKey → Bool
covers reads k = list_any (same_cell_key k) reads.keys || list_any (λ part. in_part part k) reads.parts

-- ---- agreement, and writes

-- two stores have the same cells wherever the read set says
abbrev pub AgreeOn : ReadSet → Cells → Cells → Type 0
AgreeOn reads f g = (k : CellKey) → IsTrue (covers reads k) → f k ≡ g k

-- the writes as a map from keys to what stands there
abbrev pub entries_of : List Written → List (CellKey × Option Cell)
entries_of writes = map (λ x. (x.key, x.cell)) writes

-- the cells under writes
abbrev pub overlay : Cells → List Written → Cells
overlay f writes k = unwrap_or (find cell_key_cmp k (entries_of writes)) (f k)

-- the writes lead from one store to another
abbrev pub Leads : Cells → List Written → Cells → Type 0
Leads f writes g = (k : CellKey) → overlay f writes k ≡ g k

-- the first cell of a span, if any: no key of the span below it has a cell
abbrev pub IsFirstIn : Cells → Span → Option (CellKey × Cell) → Type 0
IsFirstIn f span None = (k : CellKey) → IsTrue (in_span span k) → f k ≡ None
IsFirstIn f span (Some (k, c)) = IsTrue (in_span span k) × (f k ≡ Some c) × ((j : CellKey) → IsTrue (in_span span j) → IsTrue (is_lt (cell_key_cmp j k)) → f j ≡ None)

-- the last cell of a span, if any: no key of the span above it has a cell
abbrev pub IsLastIn : Cells → Span → Option (CellKey × Cell) → Type 0
IsLastIn f span None = (k : CellKey) → IsTrue (in_span span k) → f k ≡ None
IsLastIn f span (Some (k, c)) = IsTrue (in_span span k) × (f k ≡ Some c) × ((j : CellKey) → IsTrue (in_span span j) → IsTrue (is_lt (cell_key_cmp k j)) → f j ≡ None)

-- keys that strictly rise
abbrev pub AreRisingKeys : List CellKey → Type 0
AreRisingKeys [] = ⊤
AreRisingKeys (k ∷ []) = ⊤
AreRisingKeys (k ∷ j ∷ keys) = IsTrue (is_lt (cell_key_cmp k j)) × AreRisingKeys (j ∷ keys)
