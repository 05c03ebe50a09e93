-- What a found cell holds.
use Rattle.std.specs.Prelude.{ℕ, Option, Some, None}
use Rattle.world_cells.specs.declared.cells.Cell.{Cell}
use Rattle.world_cells.specs.declared.cells.Cell.TheVariants as cell
use Rattle.world_cells.specs.declared.rows.Row.{Row}

-- the row in a cell
abbrev pub row_of : Option Cell → Option Row
row_of None = None
row_of (Some (cell.Row row)) = Some row
row_of (Some cell.Back) = None
row_of (Some (cell.Counter n)) = None

-- the number in a counter's cell, 1 where there is none
abbrev pub number_of : Option Cell → ℕ
number_of None = 1
number_of (Some (cell.Row row)) = 1
number_of (Some cell.Back) = 1
number_of (Some (cell.Counter n)) = n
