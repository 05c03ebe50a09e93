-- Searching a span from one of its ends, and what is left of it behind a key.
use Rattle.std.specs.Prelude.{⊤, ◌≡◌, Bool, true, false, IsTrue, Some, None, Option}
use Rattle.std.specs.Prelude.{ℕ}
use Rattle.std.specs.Option.{option_map_or}
use Rattle.std.specs.Ordering.{is_lt}
use Rattle.ident_rules.specs.declared.key.Key.{Key}
use Rattle.world_cells.specs.declared.keys.CellKey.{CellKey}
use Rattle.world_cells.specs.declared.keys.CellKey.TheVariants as cell_key
use Rattle.world_cells.specs.declared.cells.Cell.{Cell}
use Rattle.world_cells.specs.declared.spans.Edge.TheVariants as edge
use Rattle.world_cells.specs.declared.spans.Span.{Span}
use Rattle.world_cells.specs.declared.spans.Span.TheVariants as span
use Rattle.world_cells.specs.CellOrder.{cell_key_cmp}
use Rattle.world_cells.specs.Reads.{Cells, in_span, link_cmp}

-- whether a search, from the top or else from the low end, meets j before k
abbrev pub is_met : Bool → CellKey → CellKey → Bool
is_met false j k = is_lt (cell_key_cmp j k)
is_met true j k = is_lt (cell_key_cmp k j)

-- the cell of a span that a search meets first, if any
abbrev pub IsMet : Bool → Cells → Span → Option (CellKey × Cell) → Type 0
IsMet from_top f span None = (j : CellKey) → IsTrue (in_span span j) → f j ≡ None
IsMet from_top f span (Some (k, c)) = IsTrue (in_span span k) × (f k ≡ Some c) × ((j : CellKey) → IsTrue (in_span span j) → IsTrue (is_met from_top j k) → f j ≡ None)

-- what a search of a span still has before it behind a key of the span
abbrev pub narrowed : Bool → Span → CellKey → Span
narrowed false (span.Rows kind low high) (cell_key.Row k) = span.Rows kind (edge.Open k.id) high
narrowed true (span.Rows kind low high) (cell_key.Row k) = span.Rows kind low (edge.Open k.id)
narrowed from_top (span.Rows kind low high) (cell_key.Back to from rel) = span.Rows kind low high
narrowed from_top (span.Rows kind low high) (cell_key.Counter n) = span.Rows kind low high
narrowed from_top (span.Backs to after) (cell_key.Row k) = span.Backs to after
narrowed from_top (span.Backs to after) (cell_key.Back t from rel) = span.Backs to (Some (from, rel))
narrowed from_top (span.Backs to after) (cell_key.Counter n) = span.Backs to after

-- a span of ways back has no edge above, and so is not narrowed from its top
abbrev pub CanNarrow : Bool → Span → Type 0
CanNarrow false span = ⊤
CanNarrow true (span.Rows kind low high) = ⊤
CanNarrow true (span.Backs to after) = ⊥

-- whether a link stands behind another, if there is one
abbrev pub is_behind : Option (Key × ℕ) → Key × ℕ → Bool
is_behind after link = option_map_or (λ l. is_lt (link_cmp l link)) after true
