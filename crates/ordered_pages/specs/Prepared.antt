-- Pages with writes.
use Rattle.std.specs.Prelude.{◌≡◌, ◌≢◌, ◌⊎◌, ◌*◌, ◌++◌, cond, List, [], ◌∷◌, length, map}
use Rattle.world_cells.specs.declared.keys.CellKey.{CellKey}
use Rattle.world_cells.specs.declared.sets.Written.{Written}
use Rattle.world_cells.specs.CellOrder.{same_cell_key}
use Rattle.world_cells.specs.Lists.{IsIn}
use Rattle.world_cells.specs.Reads.{AreRisingKeys}
use Rattle.history_model.specs.Histories.{Exactly}
use Rattle.view_reads.specs.Merging.{IsOverlaid}
use Rattle.ordered_pages.specs.Entries.{Entry}
use Rattle.ordered_pages.specs.Tree.{IsTree, leaves_of, entries_in, map_of}
use Rattle.ordered_pages.specs.Changes.{IsShared}

-- a tree with one write, whose key is added where it changes the cell there
pub record IsStep (w : Written) (old new : List (List (List (List Entry)))) (keys more : List CellKey) : Type 0 where
  pub tree : IsTree new
  pub cells : (k : CellKey) → map_of (leaves_of new) k ≡ cond (same_cell_key k w.key) w.cell (map_of (leaves_of old) k)
  pub shared : IsShared 2 (leaves_of old) (leaves_of new)
  pub noted : ((more ≡ keys) × (map_of (leaves_of old) w.key ≡ w.cell)) ⊎ ((more ≡ keys ++ w.key ∷ []) × (map_of (leaves_of old) w.key ≢ w.cell))

-- a tree with writes over leaves, and the keys at which they differ
pub record IsPrepared (leaves : List (List Entry)) (writes : List Written) (new : List (List (List (List Entry)))) (keys : List CellKey) : Type 0 where
  pub tree : IsTree new
  pub cells : IsOverlaid (map_of leaves) writes (map_of (leaves_of new))
  pub shared : IsShared (2 * length writes) leaves (leaves_of new)
  pub exact : Exactly keys (map_of leaves) (map_of (leaves_of new))
  pub rising : AreRisingKeys keys
  pub within : (k : CellKey) → IsIn keys k → IsIn (map (λ w. w.key) writes) k

-- a tree with these cells
pub record IsFilled (cells : List Entry) (new : List (List (List (List Entry)))) : Type 0 where
  pub tree : IsTree new
  pub entries : entries_in (leaves_of new) ≡ cells
