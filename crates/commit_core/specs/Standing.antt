-- What a core stands for, and what a commit and a settling leave.
use Rattle.std.specs.Prelude.{◌≡◌, ℕ, List, [], ◌∷◌, ◌++◌}
use Rattle.world_cells.specs.declared.keys.CellKey.{CellKey}
use Rattle.world_cells.specs.World.{World}
use Rattle.world_cells.specs.Reads.{Cells}
use Rattle.task_forms.specs.declared.tasks.Task.{Task}
use Rattle.task_forms.specs.declared.tasks.Entry.{Entry}
use Rattle.task_forms.specs.Meaning.{Meaning}
use Rattle.history_model.specs.Commits.{CommitLeaves}
use Rattle.history_model.specs.Standing.{Stands, IsSaid}
use Rattle.ordered_pages.specs.Tree.{map_of}
use Rattle.commit_core.specs.declared.attempts.Attempt.{Attempt}
use Rattle.commit_core.specs.declared.cores.Core.{Core}
use Rattle.commit_core.specs.declared.ends.CommitEnd.{CommitEnd}
use Rattle.commit_core.specs.declared.ends.SettleEnd.{SettleEnd}
use Rattle.commit_core.specs.declared.tries.Trial.{Trial}
use Rattle.commit_core.specs.Ends.{IfStale, IfSettled, check_of, end_of}

module _ {S K : Type 0} (kind : S → K) (meaning : K → Meaning) where
  -- what tasks mean to a core
  abbrev pub meaning_in : Core S → Meaning
  meaning_in core = meaning (kind core.subject)

  -- a core stands for a legal history from a world, whose first entry has the number first + 1
  abbrev pub StandsFor : Core S → ℕ → World → List Entry → Type 0
  StandsFor core first w entries = Stands (meaning_in core) (map_of core.pages) core.tally.count core.tally.log first w entries

  -- a new core stands for the empty history from each valid world with these cells
  abbrev pub BeginsAt : Cells → ℕ → Core S → Type 0
  BeginsAt cells first core = (w : World) → (meaning_in core).valid w → ((k : CellKey) → cells k ≡ (meaning_in core).cells w k) → StandsFor core first w []

  -- what a commit leaves, of every history for which the core stood
  abbrev pub Leaves : Core S → Core S → ℕ → Attempt → Trial → CommitEnd → Type 0
  Leaves old new by attempt trial end =
      CommitLeaves (meaning_in old) (map_of old.pages) (map_of new.pages) old.tally.count new.tally.count old.tally.log new.tally.log
      trial.at attempt.task trial.reads trial.writes trial.reply by (end_of end)

  -- a refusal is what every history for which the core stands says of the trial's reads
  abbrev pub Says : Core S → Trial → CommitEnd → Type 0
  Says core trial end = IfStale end (λ why. (first : ℕ) (w : World) (entries : List Entry) → StandsFor core first w entries
      → IsSaid (meaning_in core) first w entries core.tally.log.window trial.reads trial.at (check_of why))

  -- the entry of a settled task joined every history for which the core stood
  abbrev pub Settles : Core S → Core S → ℕ → Task → SettleEnd → Type 0
  Settles old new by task end = IfSettled end (λ e. (e.by ≡ by) × (e.task ≡ task) × ((first : ℕ) (w : World) (entries : List Entry)
      → StandsFor old first w entries → StandsFor new first w (entries ++ e ∷ [])))
