-- A core of one's own (of this project).
use Rattle.std.specs.Prelude.{◌≡◌, ℕ, List, [], ◌∷◌, ◌++◌}
use Rattle.world_cells.specs.World.{World}
use Rattle.task_forms.specs.declared.tasks.Task.{Task}
use Rattle.task_forms.specs.declared.tasks.Entry.{Entry}
use Rattle.task_forms.specs.Meaning.{Meaning}
use Rattle.commit_core.specs.declared.cores.Core.{Core}
use Rattle.commit_core.specs.Standing.{StandsFor}

-- the entry of a task
abbrev pub IsEntryOf : ℕ → Task → Entry → Type 0
IsEntryOf by task e = (e.by ≡ by) × (e.task ≡ task)

module _ {S K : Type 0} (kind : S → K) (meaning : K → Meaning) where
  -- there is a legal history for which the core stands
  abbrev pub StandsForSome : Core S → Type 0
  StandsForSome core = (first : ℕ) × (w : World) × (h : List Entry) × StandsFor kind meaning core first w h

  -- each history for which the core stood has got the entry
  abbrev pub EntryJoins : Core S → Core S → Entry → Type 0
  EntryJoins core core_now e = (first : ℕ) (w : World) (h : List Entry) → StandsFor kind meaning core first w h → StandsFor kind meaning core_now first w (h ++ e ∷ [])
