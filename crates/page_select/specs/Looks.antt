-- What a look for one row reads, in each world that may stand behind the view.
use Rattle.std.specs.Prelude.{ℕ, ◌&&◌, not, Bool, true, Option, Some, None}
use Rattle.std.specs.Ordering.{is_lt}
use Rattle.world_cells.specs.declared.keys.CellKey.{CellKey}
use Rattle.world_cells.specs.declared.keys.CellKey.TheVariants as cell_key
use Rattle.world_cells.specs.declared.rows.Row.{Row}
use Rattle.world_cells.specs.declared.spans.Edge.{Edge}
use Rattle.world_cells.specs.declared.spans.Span.TheVariants as span
use Rattle.world_cells.specs.CellOrder.{cell_key_cmp}
use Rattle.world_cells.specs.Reads.{in_span}
use Rattle.world_cells.specs.World.{World}
use Rattle.store_model.specs.Pages.{first_item, last_item}
use Rattle.page_select.specs.Ranges.{range}

-- up to a row, where there is one
abbrev pub up_to : Option Row → CellKey → Bool
up_to None k = true
up_to (Some row) k = not (is_lt (cell_key_cmp (cell_key.Row row.key) k))

-- what a look for the first row between two edges reads: the span, up to its first row where there is one
abbrev pub first_part : ℕ → Edge → Edge → World → CellKey → Bool
first_part kind low high w k = in_span (span.Rows kind low high) k && up_to (first_item (range w (span.Rows kind low high))) k

-- down to a row, where there is one
abbrev pub down_to : Option Row → CellKey → Bool
down_to None k = true
down_to (Some row) k = not (is_lt (cell_key_cmp k (cell_key.Row row.key)))

-- what a look for the last row between two edges reads
abbrev pub last_part : ℕ → Edge → Edge → World → CellKey → Bool
last_part kind low high w k = in_span (span.Rows kind low high) k && down_to (last_item (range w (span.Rows kind low high))) k
