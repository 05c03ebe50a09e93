-- What holds of every meaning of tasks that keeps its laws: the statements of this crate's law functions (all of this project).
use Rattle.std.specs.Prelude.{◌≡◌, ◌≢◌, ◌≤◌, ℕ, ◌+◌, ◌⊎◌, List, [], ◌∷◌, ◌++◌, Option}
use Rattle.http_messages.specs.declared.messages.Reply.{Reply}
use Rattle.world_cells.specs.declared.keys.CellKey.{CellKey}
use Rattle.world_cells.specs.declared.sets.ReadSet.{ReadSet}
use Rattle.world_cells.specs.declared.sets.Written.{Written}
use Rattle.world_cells.specs.World.{World}
use Rattle.world_cells.specs.Reads.{Cells, overlay, Leads}
use Rattle.task_forms.specs.declared.tasks.Entry.{Entry}
use Rattle.task_forms.specs.declared.tasks.Task.{Task}
use Rattle.task_forms.specs.Meaning.{Meaning, world_after}
use Rattle.history_model.specs.declared.checks.Check.{Check}
use Rattle.history_model.specs.declared.checks.Check.TheVariants as check
use Rattle.history_model.specs.Histories.{world_at, Exactly, Noted, Writings, IsConflict, IsAged}
use Rattle.history_model.specs.Trials.{IsTried}
use Rattle.history_model.specs.Standing.{Log, Keeps, Pushes, LogSays, IsSaid, Stands}

-- what a log of the last writing entries answers is the history's conflict and age
abbrev pub LogTellsHistory : Meaning → Type 0
LogTellsHistory m =
    (first : ℕ) (w : World) (entries : List Entry) (noted : List Noted) (log : Log) (reads : ReadSet) (since : ℕ) (answer : Check)
    → Writings m first w entries noted → Keeps log noted → LogSays log reads since answer → IsSaid m first w entries log.window reads since answer

-- a history has one conflict with a read set, or none
abbrev pub ConflictIsOne : Meaning → Type 0
ConflictIsOne m =
    (first : ℕ) (w : World) (entries : List Entry) (reads : ReadSet) (at : ℕ) (one other : Option ℕ)
    → IsConflict m first w entries reads at one → IsConflict m first w entries reads at other → one ≡ other

-- what is too old for a log is one entry, or none
abbrev pub AgedIsOne : Meaning → Type 0
AgedIsOne m =
    (first : ℕ) (w : World) (entries : List Entry) (at window : ℕ) (one other : Option ℕ)
    → IsAged m first w entries at window one → IsAged m first w entries at window other → one ≡ other

-- a trial on the cells of a world in a history, whose reads no later entry wrote, is right in the history's last world
abbrev pub TrialStaysRight : Meaning → Type 0
TrialStaysRight m =
    (store : Cells) (count : ℕ) (log : Log) (first : ℕ) (w : World) (entries : List Entry) (at : ℕ) (t : Task) (reads : ReadSet) (writes : List Written) (reply : Reply)
    → Stands m store count log first w entries → first ≤ at → LogSays log reads at check.Clear → IsTried m (m.cells (world_at m first w entries at)) t reads writes reply
    → (reply ≡ m.answer (world_after m w entries) t) × Leads (m.cells (world_after m w entries)) writes (m.cells (m.effect (world_after m w entries) t))

-- a store, its count and its log take an entry: the writes are done, and an entry that changed a cell is logged with the keys that it changed
pub record TakesEntry (store new : Cells) (count : ℕ) (log log_now : Log) (writes : List Written) : Type 0 where
  pub keys : List CellKey
  pub written : (k : CellKey) → new k ≡ overlay store writes k
  pub changed : Exactly keys store new
  pub logged : ((keys ≡ []) × (log_now ≡ log)) ⊎ ((keys ≢ []) × Pushes log (record { number = count + 1; keys = keys }) log_now)

-- a commit of a trial whose reads no later entry wrote leads from a history to the history with its entry
abbrev pub CommitExtendsHistory : Meaning → Type 0
CommitExtendsHistory m =
    (store new : Cells) (count : ℕ) (log log_now : Log) (first : ℕ) (w : World) (entries : List Entry) (at : ℕ) (e : Entry) (reads : ReadSet) (writes : List Written)
    → Stands m store count log first w entries → m.fit e.task → first ≤ at → LogSays log reads at check.Clear
    → IsTried m (m.cells (world_at m first w entries at)) e.task reads writes e.reply → TakesEntry store new count log log_now writes
    → Stands m new (count + 1) log_now first w (entries ++ e ∷ [])

-- a trial on the store as it is leads from a history to the history with its entry
abbrev pub SettleExtendsHistory : Meaning → Type 0
SettleExtendsHistory m =
    (store new : Cells) (count : ℕ) (log log_now : Log) (first : ℕ) (w : World) (entries : List Entry) (e : Entry) (reads : ReadSet) (writes : List Written)
    → Stands m store count log first w entries → m.fit e.task → IsTried m store e.task reads writes e.reply → TakesEntry store new count log log_now writes
    → Stands m new (count + 1) log_now first w (entries ++ e ∷ [])
