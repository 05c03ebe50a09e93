-- The links that lead to a key, in the order of their ways back.
use Rattle.std.specs.Prelude.{⊤, ◌≡◌, ℕ, ◌<◌, ◌^◌, Some, None, Option, IsTrue}
use Rattle.std.specs.Ordering.{is_lt}
use Rattle.ident_rules.specs.declared.key.Key.{Key}
use Rattle.world_cells.specs.declared.keys.CellKey.{CellKey}
use Rattle.world_cells.specs.declared.keys.CellKey.TheVariants as cell_key
use Rattle.world_cells.specs.declared.cells.Cell.{Cell}
use Rattle.world_cells.specs.Reads.{Cells, link_cmp}
use Rattle.view_reads.specs.Narrowing.{is_behind}

-- the link of a way back
abbrev pub link_of_key : CellKey → Option (Key × ℕ)
link_of_key (cell_key.Row k) = None
link_of_key (cell_key.Back to from rel) = Some (from, rel)
link_of_key (cell_key.Counter n) = None

-- the link whose way back was found, if one was
abbrev pub link_found : Option (CellKey × Cell) → Option (Key × ℕ)
link_found None = None
link_found (Some p) = link_of_key p.0

-- its number has 32 bits
abbrev pub FitsLink : Option (Key × ℕ) → Type 0
FitsLink None = ⊤
FitsLink (Some l) = l.1 < 2 ^ 32

-- the first link to a key, behind another one where that is given: no link before it leads there
abbrev pub IsFirstLink : Cells → Key → Option (Key × ℕ) → Option (Key × ℕ) → Type 0
IsFirstLink f to after None = (from : Key) (rel : ℕ) → IsTrue (is_behind after (from, rel)) → f (cell_key.Back to from rel) ≡ None
IsFirstLink f to after (Some l) =
    IsTrue (is_behind after l) × ((c : Cell) × (f (cell_key.Back to l.0 l.1) ≡ Some c))
    × ((from : Key) (rel : ℕ) → IsTrue (is_behind after (from, rel)) → IsTrue (is_lt (link_cmp (from, rel) l)) → f (cell_key.Back to from rel) ≡ None)
