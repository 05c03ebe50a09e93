use Rattle.std.proofs.Common.{[], ◌∷◌}
use Rattle.history_lock.proofs.lock.HistoryLock.leave_with.Given as goal

-- the entry that joins
abbrev pub ghosts-raise : goal.ghosts-raise
ghosts-raise g a = record { entries = a.entry.now ∷ [] }
