-- What a store that is shared stands for, and how a pass grows by its calls.
use Rattle.std.specs.Prelude.{⊤, ◌≡◌, ◌+◌, ◌<◌, ℕ, List, [], ◌∷◌, ◌++◌, length, Some}
use Rattle.ident_rules.specs.Owned.{entries_by}
use Rattle.world_cells.specs.declared.keys.CellKey.{CellKey}
use Rattle.task_forms.specs.declared.tasks.Task.{Task}
use Rattle.task_forms.specs.declared.tasks.Entry.{Entry}
use Rattle.task_forms.specs.Desks.{last_number}
use Rattle.task_forms.specs.Meaning.{Meaning, IsLegal, world_after}
use Rattle.history_model.specs.Commits.{IsTrialOf}
use Rattle.history_model.specs.Standing.{IsSaid}
use Rattle.history_model.specs.declared.checks.TheConstants.{LOG_WINDOW}
use Rattle.history_lock.specs.declared.rule.Knows.{Knows}
use Rattle.history_lock.specs.Views.{LockState, PassState}
use Rattle.ordered_pages.specs.Tree.{map_of}
use Rattle.commit_core.specs.declared.cores.Core.{Core}
use Rattle.commit_core.specs.declared.cores.Snapshot.{Snapshot}
use Rattle.commit_core.specs.declared.ends.CommitEnd.{CommitEnd}
use Rattle.commit_core.specs.declared.ends.CommitEnd.TheVariants.{Done, Stale, NoMemory, Worn}
use Rattle.commit_core.specs.declared.ends.SettleEnd.{SettleEnd}
use Rattle.commit_core.specs.declared.ends.SettleEnd.TheVariants as settle
use Rattle.commit_core.specs.declared.tries.Trial.{Trial}
use Rattle.commit_core.specs.Ends.{IfStale, IfSettled, check_of}
use Rattle.commit_core.specs.Standing.{StandsFor, meaning_in}

-- what contracts see of a shared store
pub record ServiceState (S : Type 0) : Type 0 where
  pub lock : LockState
  pub subject : S

module _ {S K : Type 0} (kind : S → K) (meaning : K → Meaning) where
  -- what a core stands for behind a lock: a history from the empty world, with the program's window
  abbrev pub StandsKept : Core S → ℕ → List Entry → Type 0
  StandsKept core first entries = (core.tally.log.window ≡ LOG_WINDOW) × StandsFor kind meaning core first ((meaning_in kind meaning core).empty) entries

module _ {S K : Type 0} (kind : S → K) where
  -- a pass of this store
  abbrev pub IsPassOf : ServiceState S → PassState Entry K → Type 0
  IsPassOf service pass = (pass.lock ≡ service.lock.name) × (pass.view.kind ≡ Some (kind service.subject))

module _ {K : Type 0} (m : Meaning) where
  -- A pass has seen more, all of it a legal history; these entries came last and are its own.
  pub record Grows (old new : PassState Entry K) (added : List Entry) : Type 0 where
    pub lock : new.lock ≡ old.lock
    pub number : new.number ≡ old.number
    pub numbers : new.view.numbers ≡ old.view.numbers
    pub first : new.view.first ≡ old.view.first
    pub others : List Entry
    pub seen : new.view.seen ≡ (old.view.seen ++ others) ++ added
    pub mine : new.view.mine ≡ old.view.mine ++ added
    pub own : entries_by (λ e. e.by) new.view.numbers new.view.seen ≡ new.view.mine
    pub legal : IsLegal m m.empty new.view.seen

  -- a snapshot of the last world that a pass has seen
  pub record Snaps (v : Knows Entry K) (s : Snapshot) : Type 0 where
    pub at : s.at ≡ v.first + length v.seen
    pub cells : (k : CellKey) → map_of s.pages k ≡ m.cells (world_after m m.empty v.seen) k

  -- a trial of a world that a pass has seen
  abbrev pub IsTrialSeen : Knows Entry K → Task → Trial → Type 0
  IsTrialSeen v task trial = IsTrialOf m v.first m.empty v.seen trial.at task trial.reads trial.writes trial.reply

  -- a refusal is what the history says that the pass has seen
  abbrev pub SaysSeen : Knows Entry K → Trial → CommitEnd → Type 0
  SaysSeen v trial end = IfStale end (λ why. IsSaid m v.first m.empty v.seen LOG_WINDOW trial.reads trial.at (check_of why))

-- the entries that a commit or a settling added
abbrev pub added_by : CommitEnd → List Entry
added_by (Done e) = e ∷ []
added_by end = []

abbrev pub settled_by : SettleEnd → List Entry
settled_by (settle.Done e) = e ∷ []
settled_by end = []

-- worn exactly where nothing was added and the history is at its last number
module _ {K : Type 0} where
  abbrev pub WornAt : Knows Entry K → CommitEnd → Type 0
  WornAt v (Done e) = ⊤
  WornAt v (Worn a) = v.first + length v.seen ≡ last_number
  WornAt v end = v.first + length v.seen < last_number

  abbrev pub SettleWornAt : Knows Entry K → SettleEnd → Type 0
  SettleWornAt v (settle.Done e) = ⊤
  SettleWornAt v (settle.Worn a) = v.first + length v.seen ≡ last_number
  SettleWornAt v (settle.NoMemory a) = v.first + length v.seen < last_number

-- the entry of a settled task
abbrev pub SettledBy : ℕ → Task → SettleEnd → Type 0
SettledBy by task end = IfSettled end (λ e. (e.by ≡ by) × (e.task ≡ task))
