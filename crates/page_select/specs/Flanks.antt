-- Whether rows stand beside those of a page, and what is read to see it.
use Rattle.std.specs.Prelude.{◌≡◌, ℕ, ◌&&◌, ◌||◌, nat_le, Bool, false, List, length, is_some}
use Rattle.std.specs.Option.{option_map_or}
use Rattle.world_cells.specs.declared.keys.CellKey.{CellKey}
use Rattle.world_cells.specs.declared.rows.Row.{Row}
use Rattle.world_cells.specs.declared.spans.Edge.{Edge}
use Rattle.world_cells.specs.declared.spans.Edge.TheVariants as edge
use Rattle.world_cells.specs.declared.spans.Span.TheVariants as span
use Rattle.world_cells.specs.World.{World}
use Rattle.task_forms.specs.declared.queries.Page.{Page}
use Rattle.store_model.specs.declared.pages.Selected.{Selected}
use Rattle.store_model.specs.Pages.{first_item, last_item, is_range}
use Rattle.page_select.specs.Ranges.{range}
use Rattle.page_select.specs.Looks.{first_part, last_part}
use Rattle.page_select.specs.Scans.{edge_past}

-- whether a row of the type stands before the first of these, and behind the last
abbrev pub row_before : World → ℕ → List Row → Bool
row_before w kind rows = option_map_or (λ row. is_some (first_item (range w (span.Rows kind edge.End (edge.Open row.key.id))))) (first_item rows) false

abbrev pub row_after : World → ℕ → List Row → Bool
row_after w kind rows = option_map_or (λ row. is_some (first_item (range w (span.Rows kind (edge.Open row.key.id) edge.End)))) (last_item rows) false

pub record IsFlanked (w : World) (kind : ℕ) (rows : List Row) (cut : Bool) (s : Selected) : Type 0 where
  pub same : s.rows ≡ rows
  pub before : s.before ≡ row_before w kind rows
  pub after : s.after ≡ row_after w kind rows
  pub truncated : s.truncated ≡ cut

-- what looks below the first of some rows and above their last read
abbrev pub flank_part : ℕ → List Row → World → CellKey → Bool
flank_part kind rows w k =
    option_map_or (λ row. last_part kind edge.End (edge.Open row.key.id) w k) (first_item rows) false
    || option_map_or (λ row. first_part kind (edge.Open row.key.id) edge.End w k) (last_item rows) false

-- a range has a row behind those of a full page of it
abbrev pub is_cut_short : World → ℕ → Page → List Row → Edge → Edge → Bool
is_cut_short w kind page rows low high = is_range page && (nat_le page.size (length rows) && is_some (first_item (range w (span.Rows kind (edge_past low rows) high))))
