-- Notes of which entry changed which cell, and the last of them by slots of keys and by groups (of this project).
use Rattle.std.specs.Prelude.{⊤, ◌≡◌, ℕ, ◌<◌, ◌≤◌, ◌==◌, Bool, cond, nat_lt, List, [], ◌∷◌, get_or, slice_set, length}
use Rattle.world_cells.specs.declared.keys.CellKey.{CellKey}
use Rattle.world_cells.specs.declared.spans.Span.{Span}
use Rattle.world_cells.specs.declared.sets.Part.{Part}
use Rattle.world_cells.specs.declared.sets.ReadSet.{ReadSet}
use Rattle.world_cells.specs.declared.slots.TheConstants.{SLOTS, GROUPS}
use Rattle.world_cells.specs.Slots.{slot_of, group_of, group_of_span}

-- ---- notes

-- the entry of a number changed the cell of a key
abbrev pub Note : Type 0
Note = CellKey × ℕ

abbrev pub greater : ℕ → ℕ → ℕ
greater m n = cond (nat_lt m n) n m

-- the greatest number noted for a key that passes a test, 0 where there is none
abbrev pub last_noted : (CellKey → Bool) → List Note → ℕ
last_noted test [] = 0
last_noted test (x ∷ notes) = cond (test x.0) (greater (last_noted test notes) x.1) (last_noted test notes)

abbrev pub last_of_slot : ℕ → List Note → ℕ
last_of_slot slot notes = last_noted (λ k. slot_of k == slot) notes

abbrev pub last_of_group : ℕ → List Note → ℕ
last_of_group group notes = last_noted (λ k. group_of k == group) notes

-- notes, the last one first, with one for each of these keys
abbrev pub with_all : List Note → List CellKey → ℕ → List Note
with_all notes [] n = notes
with_all notes (k ∷ keys) n = with_all ((k, n) ∷ notes) keys n

-- ---- a table

-- a number for each slot, and one for each group
pub record Writers : Type 0 where
  pub slots : List ℕ
  pub groups : List ℕ

-- with a place for each slot and each group
pub record IsTable (w : Writers) : Type 0 where
  pub slots : length w.slots ≡ SLOTS
  pub groups : length w.groups ≡ GROUPS

-- the table has the last of these notes
pub record StandsFor (w : Writers) (notes : List Note) : Type 0 where
  pub slots : (slot : ℕ) → slot < SLOTS → get_or w.slots slot 0 ≡ last_of_slot slot notes
  pub groups : (group : ℕ) → group < GROUPS → get_or w.groups group 0 ≡ last_of_group group notes

-- the last writer of a key's slot, and of a span's group
abbrev pub last_number : Writers → CellKey → ℕ
last_number w k = get_or w.slots (slot_of k) 0

abbrev pub last_number_in : Writers → Span → ℕ
last_number_in w s = get_or w.groups (group_of_span s) 0

-- the numbers, with a greater one put in the place of a lesser
abbrev pub raised : List ℕ → ℕ → ℕ → List ℕ
raised numbers at n = slice_set numbers at (greater (get_or numbers at 0) n)

abbrev pub with_note : Writers → CellKey → ℕ → Writers
with_note w k n = record { slots = raised w.slots (slot_of k) n; groups = raised w.groups (group_of k) n }

abbrev pub with_notes : Writers → List CellKey → ℕ → Writers
with_notes w [] n = w
with_notes w (k ∷ keys) n = with_notes (with_note w k n) keys n

-- ---- what a table says of reads

-- no last writer of the keys came after a number
abbrev pub KeysAreOld : Writers → List CellKey → ℕ → Type 0
KeysAreOld w [] since = ⊤
KeysAreOld w (k ∷ keys) since = (last_number w k ≤ since) × KeysAreOld w keys since

-- nor of the parts
abbrev pub PartsAreOld : Writers → List Part → ℕ → Type 0
PartsAreOld w [] since = ⊤
PartsAreOld w (p ∷ parts) since = (last_number_in w p.span ≤ since) × PartsAreOld w parts since

-- nor of the reads
abbrev pub AreOld : Writers → ReadSet → ℕ → Type 0
AreOld w reads since = KeysAreOld w reads.keys since × PartsAreOld w reads.parts since
