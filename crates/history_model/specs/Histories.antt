-- Histories: the worlds in them, what their entries write, and conflicts (all of this project).
use Rattle.std.specs.Prelude.{◌≡◌, ◌≢◌, ℕ, ◌+◌, ◌-◌, ◌<◌, ◌≤◌, ◌==◌, ◌⊎◌, if◌then◌else◌, IsTrue, List, [], ◌∷◌, take, length, Some, None, Option, MatchOption}
use Rattle.world_cells.specs.declared.keys.CellKey.{CellKey}
use Rattle.world_cells.specs.declared.sets.ReadSet.{ReadSet}
use Rattle.task_forms.specs.declared.tasks.Entry.{Entry}
use Rattle.task_forms.specs.declared.tasks.Task.{Task}
use Rattle.world_cells.specs.World.{World}
use Rattle.world_cells.specs.Reads.{Cells, covers}
use Rattle.world_cells.specs.Lists.{IsIn}
use Rattle.task_forms.specs.Meaning.{Meaning, world_after, IsLegal}

-- ---- worlds of a history

-- The world after the entries up to a number. The first entry has the number first + 1.
abbrev pub world_at : Meaning → ℕ → World → List Entry → ℕ → World
world_at m first w entries n = world_after m w (take (n - first) entries)

-- ---- what entries write

-- the entry of a number writes the cell of a key: the cell differs in the worlds before and after it
abbrev pub Writes : Meaning → ℕ → World → List Entry → ℕ → CellKey → Type 0
Writes m first w entries n k = m.cells (world_at m first w entries (n - 1)) k ≢ m.cells (world_at m first w entries n) k

-- the number of an entry
abbrev pub IsNumber : ℕ → List Entry → ℕ → Type 0
IsNumber first entries n = (first < n) × (n ≤ first + length entries)

-- exactly the keys at which two stores differ
pub record Exactly (keys : List CellKey) (f g : Cells) : Type 0 where
  pub differ : (k : CellKey) → IsIn keys k → f k ≢ g k
  pub same : (k : CellKey) → IsIn keys k ⊎ (f k ≡ g k)

-- a writing entry: its number, and the keys of the cells that it writes
pub record Noted : Type 0 where
  pub number : ℕ
  pub keys : List CellKey

-- the writing entries of a history whose last number so far is n, in order
abbrev pub Writings : Meaning → ℕ → World → List Entry → List Noted → Type 0
Writings m n w [] noted = noted ≡ []
Writings m n w (e ∷ entries) noted =
    (((k : CellKey) → m.cells w k ≡ m.cells (m.effect w e.task) k) × Writings m (n + 1) (m.effect w e.task) entries noted)
    ⊎ ((keys : List CellKey) × (rest : List Noted) × (noted ≡ record { number = n + 1; keys = keys } ∷ rest) × (keys ≢ [])
    × Exactly keys (m.cells w) (m.cells (m.effect w e.task)) × Writings m (n + 1) (m.effect w e.task) entries rest)

-- ---- conflicts

-- the entry of a number writes a cell that the reads cover
abbrev pub MeetsReads : Meaning → ℕ → World → List Entry → ReadSet → ℕ → Type 0
MeetsReads m first w entries reads n = IsNumber first entries n × ((k : CellKey) × Writes m first w entries n k × IsTrue (covers reads k))

-- the least number above another at which something holds, or none
abbrev pub IsLeastAbove : (ℕ → Type 0) → ℕ → Option ℕ → Type 0
IsLeastAbove P at found = MatchOption found ((n : ℕ) → at < n → ¬ P n) (λ n. (at < n) × P n × ((i : ℕ) → at < i → i < n → ¬ P i))

-- the first entry after a number that writes what was read, or none
abbrev pub IsConflict : Meaning → ℕ → World → List Entry → ReadSet → ℕ → Option ℕ → Type 0
IsConflict m first w entries reads = IsLeastAbove (MeetsReads m first w entries reads)

-- the number of the one that is followed by exactly `window` others, or none
abbrev pub last_dropped : ℕ → List Noted → Option ℕ
last_dropped window [] = None
last_dropped window (x ∷ noted) = if length noted == window then Some x.number else last_dropped window noted

-- a number above another
abbrev pub IsAbove : ℕ → Option ℕ → Type 0
IsAbove at found = MatchOption found ⊥ (λ n. at < n)

-- a number where it stands above another
abbrev pub OnlyAbove : ℕ → Option ℕ → Option ℕ → Type 0
OnlyAbove at found None = ¬ IsAbove at found
OnlyAbove at found (Some n) = (found ≡ Some n) × (at < n)

-- the writing entry that is followed by exactly `window` writing entries, where there is one after a number
abbrev pub IsAged : Meaning → ℕ → World → List Entry → ℕ → ℕ → Option ℕ → Type 0
IsAged m first w entries at window found = (noted : List Noted) × Writings m first w entries noted × OnlyAbove at (last_dropped window noted) found

-- a commit of a task tried at a number may be refused: a later entry writes what the task may look at, or the snapshot is too old
abbrev pub MayRefuse : Meaning → ℕ → World → List Entry → Task → ℕ → ℕ → Type 0
MayRefuse m first w entries t at window =
    ((n : ℕ) × (at < n) × IsNumber first entries n × ((k : CellKey) × Writes m first w entries n k × IsTrue (m.reach (world_at m first w entries at) t k)))
    ⊎ ((n : ℕ) × IsAged m first w entries at window (Some n))
