-- Writes in ascending order of their keys, and the place of a key among them.
use Rattle.std.specs.Prelude.{◌≡◌, ℕ, ◌++◌, List, Option, Some, None, take, drop, ◌<◌, ◌≤◌, length, get_or, slice_set as set, T}
use Rattle.std.specs.List.{insert}
use Rattle.std.specs.FinMap.Entries.{put, find, is_sorted}
use Rattle.world_cells.specs.declared.keys.CellKey.{CellKey}
use Rattle.world_cells.specs.declared.cells.Cell.{Cell}
use Rattle.world_cells.specs.declared.sets.Written.{Written}
use Rattle.world_cells.specs.CellOrder.{cell_key_cmp}
use Rattle.world_cells.specs.Reads.{entries_of}

-- the keys strictly rise
abbrev pub AreSorted : List Written → Type 0
AreSorted writes = T (is_sorted cell_key_cmp (entries_of writes))

-- the writes with one more, in ascending order of keys
abbrev pub Wrote : List Written → CellKey → Option Cell → List Written → Type 0
Wrote old key cell new = entries_of new ≡ put cell_key_cmp key cell (entries_of old)

-- to put an entry is to keep the first n and to put it into the rest
abbrev pub PutsFrom : CellKey → Option Cell → List (CellKey × Option Cell) → ℕ → Type 0
PutsFrom key cell es n = put cell_key_cmp key cell es ≡ take n es ++ put cell_key_cmp key cell (drop n es)

-- what stands at a key and what is put there are decided from the place n on
pub record IsFrom (writes : List Written) (key : CellKey) (n : ℕ) : Type 0 where
  pub puts : (cell : Option Cell) → PutsFrom key cell (entries_of writes) n
  pub finds : find cell_key_cmp key (entries_of writes) ≡ find cell_key_cmp key (drop n (entries_of writes))

-- the place of a write of the key
pub record IsThere (writes : List Written) (key : CellKey) (at : ℕ) : Type 0 where
  pub within : at < length writes
  pub puts : (cell : Option Cell) (d : Written) → put cell_key_cmp key cell (entries_of writes) ≡ set (entries_of writes) at ((get_or writes at d).key, cell)
  pub finds : (d : Written) → find cell_key_cmp key (entries_of writes) ≡ Some (get_or writes at d).cell

-- the place where a write of the key would stand, which is not there
pub record IsBetween (writes : List Written) (key : CellKey) (at : ℕ) : Type 0 where
  pub within : at ≤ length writes
  pub puts : (cell : Option Cell) → put cell_key_cmp key cell (entries_of writes) ≡ insert (entries_of writes) at (key, cell)
  pub finds : find cell_key_cmp key (entries_of writes) ≡ None
