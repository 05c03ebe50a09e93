-- The count of a history and its log.
use Rattle.std.specs.Prelude.{◌≡◌, ◌≢◌, ◌<◌, ◌≤◌, ◌+◌, ◌⊎◌, ℕ, List, [], length}
use Rattle.world_cells.specs.declared.keys.CellKey.{CellKey}
use Rattle.history_model.specs.Standing.{Log, Pushes}
use Rattle.commit_log.specs.Keeping.{AreBelow}

pub record TallyState : Type 0 where
  pub count : ℕ
  pub log : Log

-- no logged entry has a number above the count, and the log is no longer than its window
pub record IsTallied (count : ℕ) (log : Log) : Type 0 where
  pub below : AreBelow (count + 1) log.kept
  pub some : 0 < log.window
  pub fits : length log.kept ≤ log.window

-- one entry more, which is logged where it wrote
pub record Counts (old : TallyState) (keys : List CellKey) (new : TallyState) : Type 0 where
  pub count : new.count ≡ old.count + 1
  pub logged : ((keys ≡ []) × (new.log ≡ old.log)) ⊎ ((keys ≢ []) × Pushes old.log (record { number = old.count + 1; keys = keys }) new.log)
