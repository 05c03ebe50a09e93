-- The cells of a view that no write hides, the cells that writes put, and which of the two a search meets first.
use Rattle.std.specs.Prelude.{◌≡◌, Bool, true, cond, IsTrue, List, Some, None, Option}
use Rattle.std.specs.Option.{option_map}
use Rattle.std.specs.FinMap.Entries.{find}
use Rattle.world_cells.specs.declared.keys.CellKey.{CellKey}
use Rattle.world_cells.specs.declared.cells.Cell.{Cell}
use Rattle.world_cells.specs.declared.spans.Span.{Span}
use Rattle.world_cells.specs.declared.sets.Written.{Written}
use Rattle.world_cells.specs.CellOrder.{cell_key_cmp}
use Rattle.world_cells.specs.Reads.{Cells, entries_of, overlay, in_span}
use Rattle.view_reads.specs.Narrowing.{is_met}

-- no cell; `overlay nothing` is what writes alone put
abbrev pub nothing : Cells
nothing k = None

-- what a write puts, if anything
abbrev pub put_of : Written → Option (CellKey × Cell)
put_of w = option_map (λ c. (w.key, c)) w.cell

-- what it puts into a span
abbrev pub put_in : Written → Span → Option (CellKey × Cell)
put_in w span = cond (in_span span w.key) (put_of w) None

-- a write hides what stands at its key
abbrev pub hidden : Option (Option Cell) → Option Cell → Option Cell
hidden None c = c
hidden (Some w) c = None

-- the cells at whose keys nothing is written
abbrev pub unwritten : Cells → List Written → Cells
unwritten f writes k = hidden (find cell_key_cmp k (entries_of writes)) (f k)

-- whether a search meets a key before what was put, if anything was
abbrev pub is_met_before : Bool → Option (CellKey × Cell) → CellKey → Bool
is_met_before from_top None k = true
is_met_before from_top (Some p) k = is_met from_top k p.0

-- the unwritten cell of a span that a search meets first, if it meets one before what was put
abbrev pub IsFirstUnwritten : Bool → Cells → List Written → Span → Option (CellKey × Cell) → Option (CellKey × Cell) → Type 0
IsFirstUnwritten from_top f writes span put None = (j : CellKey) → IsTrue (in_span span j) → IsTrue (is_met_before from_top put j) → unwritten f writes j ≡ None
IsFirstUnwritten from_top f writes span put (Some (k, c)) =
    IsTrue (in_span span k) × (unwritten f writes k ≡ Some c) × IsTrue (is_met_before from_top put k)
    × ((j : CellKey) → IsTrue (in_span span j) → IsTrue (is_met from_top j k) → unwritten f writes j ≡ None)

-- the cell of a key at which nothing is written, or else what was found before
abbrev pub unless_written : Option (Option Cell) → Option (CellKey × Cell) → CellKey × Cell → Option (CellKey × Cell)
unless_written None last p = Some p
unless_written (Some w) last p = last

-- what is there is what stood there, under the writes
abbrev pub IsOverlaid : Cells → List Written → Cells → Type 0
IsOverlaid before writes after = (k : CellKey) → after k ≡ overlay before writes k
