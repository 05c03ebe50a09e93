-- Facts of logs and of cores, on plain values.
use Rattle.std.proofs.Common.{◌≡◌, ℕ, ◌+◌, ◌<◌, List, [], refl, sym, subst, arith, inl}
use Rattle.world_cells.specs.World.{World}
use Rattle.world_cells.specs.Reads.{Cells}
use Rattle.task_forms.specs.declared.tasks.Entry.{Entry}
use Rattle.task_forms.specs.Meaning.{Meaning}
use Rattle.history_model.specs.Standing.{Log, Keeps, Stands}
use Rattle.commit_log.specs.Logs.{no_entries}

-- a log that remembers nothing yet keeps the writing entries of no entry
pub keeps_nothing : (window : ℕ) → 0 < window → Keeps (no_entries window) []
keeps_nothing window some = record {
  old = [];
  some = some;
  all = refl;
  last = refl;
  size = omega arith;
  full = inl refl;
}

-- the same under the names of the call
pub stands_as : {S K : Type 0} (kind : S → K) (meaning : K → Meaning) (old new : S) (store : Cells) (log : Log) (first : ℕ) (w : World) (h : List Entry) (count now : ℕ)
    → new ≡ old → now ≡ count + 1 → Stands (meaning (kind old)) store (count + 1) log first w h → Stands (meaning (kind new)) store now log first w h
stands_as kind meaning old new store log first w h count now same is stood =
    subst (λ n. Stands (meaning (kind new)) store n log first w h) (sym is) (subst (λ s. Stands (meaning (kind s)) store (count + 1) log first w h) (sym same) stood)
