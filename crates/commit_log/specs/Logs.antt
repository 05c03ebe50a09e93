-- What a log holds.
use Rattle.std.specs.Prelude.{⊤, ℕ, ◌<◌, ◌≤◌, List, [], ◌∷◌, length, map, get_or, None}
use Rattle.circular_buffer.specs.Buffer.{Buffer}
use Rattle.world_cells.specs.declared.keys.CellKey.{CellKey}
use Rattle.world_cells.specs.Slots.{slot_of, group_of}
use Rattle.history_model.specs.Histories.{Noted}
use Rattle.history_model.specs.Standing.{Log}
use Rattle.commit_log.specs.declared.kept.KeptEntry.{KeptEntry}
use Rattle.commit_log.specs.Keeping.{noted, AreRising}
use Rattle.commit_log.specs.Writers.{Writers, IsTable}

-- the last entries that changed a cell, and the last writers of all entries
pub record Logged : Type 0 where
  pub log : Log
  pub writers : Writers

abbrev pub no_entries : ℕ → Log
no_entries window = record { window = window; kept = []; dropped = None }

-- the table has at least these numbers for a key
abbrev pub IsTold : Writers → ℕ → CellKey → Type 0
IsTold w n k = (n ≤ get_or w.slots (slot_of k) 0) × (n ≤ get_or w.groups (group_of k) 0)

abbrev pub AreTold : Writers → ℕ → List CellKey → Type 0
AreTold w n [] = ⊤
AreTold w n (k ∷ keys) = IsTold w n k × AreTold w n keys

abbrev pub EachTold : Writers → List Noted → Type 0
EachTold w [] = ⊤
EachTold w (x ∷ xs) = AreTold w x.number x.keys × EachTold w xs

-- the ring has room for one entry at least, its numbers rise, and the table has its writers
pub record IsLogged (kept : Buffer KeptEntry) (w : Writers) : Type 0 where
  pub some : 0 < kept.capacity
  pub fits : length kept.items ≤ kept.capacity
  pub table : IsTable w
  pub rising : AreRising (map noted kept.items)
  pub told : EachTold w (map noted kept.items)
