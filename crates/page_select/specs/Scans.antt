-- Scans of a range from one of its ends: the rows that come out, and what is read.
use Rattle.std.specs.Prelude.{◌≡◌, ◌<◌, ◌⊎◌, ℕ, ◌&&◌, ◌||◌, not, nat_lt, Bool, List, [], ◌++◌, length}
use Rattle.std.specs.Option.{option_map_or}
use Rattle.world_cells.specs.declared.keys.CellKey.{CellKey}
use Rattle.world_cells.specs.declared.rows.Row.{Row}
use Rattle.world_cells.specs.declared.spans.Edge.{Edge}
use Rattle.world_cells.specs.declared.spans.Edge.TheVariants as edge
use Rattle.world_cells.specs.declared.spans.Span.TheVariants as span
use Rattle.world_cells.specs.Reads.{in_span}
use Rattle.world_cells.specs.World.{World}
use Rattle.store_model.specs.Pages.{first_item, last_item}
use Rattle.page_select.specs.Ranges.{range}

-- the edge behind the last of some rows, and the edge before the first; the given one where there is no row
abbrev pub edge_past : Edge → List Row → Edge
edge_past low rows = option_map_or (λ row. edge.Open row.key.id) (last_item rows) low

abbrev pub edge_before : Edge → List Row → Edge
edge_before high rows = option_map_or (λ row. edge.Open row.key.id) (first_item rows) high

-- so many rows, or fewer where none is left
abbrev pub IsEnough : ℕ → List Row → List Row → Type 0
IsEnough size rows left = (length rows ≡ size) ⊎ ((length rows < size) × (left ≡ []))

-- The rows are the first of the range: what is left of it lies behind them.
pub record IsScannedUp (w : World) (kind : ℕ) (low high : Edge) (size : ℕ) (rows : List Row) : Type 0 where
  pub split : range w (span.Rows kind low high) ≡ rows ++ range w (span.Rows kind (edge_past low rows) high)
  pub enough : IsEnough size rows (range w (span.Rows kind (edge_past low rows) high))

-- The rows are the last of the range.
pub record IsScannedDown (w : World) (kind : ℕ) (low high : Edge) (size : ℕ) (rows : List Row) : Type 0 where
  pub split : range w (span.Rows kind low high) ≡ range w (span.Rows kind low (edge_before high rows)) ++ rows
  pub enough : IsEnough size rows (range w (span.Rows kind low (edge_before high rows)))

-- what is read: the span, without what is left of it where the rows are enough
abbrev pub read_up : ℕ → Edge → Edge → ℕ → List Row → CellKey → Bool
read_up kind low high size rows k = in_span (span.Rows kind low high) k && (nat_lt (length rows) size || not (in_span (span.Rows kind (edge_past low rows) high) k))

abbrev pub read_down : ℕ → Edge → Edge → ℕ → List Row → CellKey → Bool
read_down kind low high size rows k = in_span (span.Rows kind low high) k && (nat_lt (length rows) size || not (in_span (span.Rows kind low (edge_before high rows)) k))
