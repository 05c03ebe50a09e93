-- What a core holds of a history: the cells of its last world, its count, and a log of the last writing entries.
use Rattle.std.specs.Prelude.{◌≡◌, ℕ, ◌+◌, ◌<◌, ◌≤◌, ◌⊎◌, IsTrue, List, [], ◌∷◌, ◌++◌, length, Some, None, Option, ⊤}
use Rattle.world_cells.specs.declared.keys.CellKey.{CellKey}
use Rattle.world_cells.specs.declared.sets.ReadSet.{ReadSet}
use Rattle.history_model.specs.declared.checks.Check.{Check}
use Rattle.history_model.specs.declared.checks.Check.TheVariants as check
use Rattle.task_forms.specs.declared.tasks.Entry.{Entry}
use Rattle.world_cells.specs.World.{World}
use Rattle.world_cells.specs.Reads.{Cells, covers}
use Rattle.world_cells.specs.Lists.{IsIn}
use Rattle.task_forms.specs.Meaning.{Meaning}
use Rattle.task_forms.specs.Meaning.{world_after, IsLegal}
use Rattle.history_model.specs.Histories.{Noted, Writings, IsAbove, IsConflict, IsAged}

-- ---- a log

-- the last writing entries, at most `window`, and the number of the one that was dropped last
pub record Log : Type 0 where
  pub window : ℕ
  pub kept : List Noted
  pub dropped : Option ℕ

-- the number of the last of these
abbrev pub IsLastOf : Option ℕ → List Noted → Type 0
IsLastOf None old = old ≡ []
IsLastOf (Some n) old = (front : List Noted) × (x : Noted) × (old ≡ front ++ x ∷ []) × (x.number ≡ n)

-- the log has the last `window` of these, and as dropped the number of the one before them
pub record Keeps (log : Log) (noted : List Noted) : Type 0 where
  pub old : List Noted
  pub some : 0 < log.window
  pub all : noted ≡ old ++ log.kept
  pub last : IsLastOf log.dropped old
  pub size : length log.kept ≤ log.window
  pub full : (old ≡ []) ⊎ (length log.kept ≡ log.window)

-- the log with one more: where it was full, its first is dropped
pub record Pushes (old : Log) (x : Noted) (new : Log) : Type 0 where
  pub window : new.window ≡ old.window
  pub room : length old.kept < old.window → (new.kept ≡ old.kept ++ x ∷ []) × (new.dropped ≡ old.dropped)
  pub full : (y : Noted) (rest : List Noted) → old.kept ≡ y ∷ rest → length old.kept ≡ old.window → (new.kept ≡ rest ++ x ∷ []) × (new.dropped ≡ Some y.number)

-- ---- what a log says of reads

-- a key that was read was written
abbrev pub Meets : ReadSet → List CellKey → Type 0
Meets reads keys = (k : CellKey) × IsTrue (covers reads k) × IsIn keys k

-- no entry after `since` wrote what was read
abbrev pub NoneMeets : ReadSet → ℕ → List Noted → Type 0
NoneMeets reads since [] = ⊤
NoneMeets reads since (x ∷ noted) = (since < x.number → ¬ Meets reads x.keys) × NoneMeets reads since noted

-- the first entry after `since` that wrote what was read
abbrev pub IsFirstMeeting : ReadSet → ℕ → List Noted → ℕ → Type 0
IsFirstMeeting reads since [] n = ⊥
IsFirstMeeting reads since (x ∷ noted) n =
    ((x.number ≡ n) × (since < n) × Meets reads x.keys)
    ⊎ ((since < x.number → ¬ Meets reads x.keys) × IsFirstMeeting reads since noted n)

-- what a log answers, by what it keeps and what it dropped last
abbrev pub LogSays : Log → ReadSet → ℕ → Check → Type 0
LogSays log reads since check.Clear = ¬ IsAbove since log.dropped × NoneMeets reads since log.kept
LogSays log reads since (check.Conflict n) = ¬ IsAbove since log.dropped × IsFirstMeeting reads since log.kept n
LogSays log reads since (check.Aged n) = (log.dropped ≡ Some n) × (since < n)

-- what an answer of the log means of the history: the first entry that wrote what was read, unless the snapshot is too old
abbrev pub IsSaid : Meaning → ℕ → World → List Entry → ℕ → ReadSet → ℕ → Check → Type 0
IsSaid m first w entries window reads since check.Clear = IsConflict m first w entries reads since None × IsAged m first w entries since window None
IsSaid m first w entries window reads since (check.Conflict n) = IsConflict m first w entries reads since (Some n) × IsAged m first w entries since window None
IsSaid m first w entries window reads since (check.Aged n) = IsAged m first w entries since window (Some n)

-- ---- a core

-- a store, a count and a log stand for a legal history that begins in the world w after the number `first`
pub record Stands (m : Meaning) (store : Cells) (count : ℕ) (log : Log) (first : ℕ) (w : World) (entries : List Entry) : Type 0 where
  pub legal : IsLegal m w entries
  pub cells : (k : CellKey) → store k ≡ m.cells (world_after m w entries) k
  pub counted : count ≡ first + length entries
  pub noted : (noted : List Noted) × Writings m first w entries noted × Keeps log noted
