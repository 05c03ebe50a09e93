-- Steps of one task over a core, as events of a run (of this project).
use Rattle.std.specs.Prelude.{⊤, ◌≡◌, ℕ, ◌+◌, ◌<◌, ◌≤◌, List, ◌++◌, length, IsTrue}
use Rattle.world_cells.specs.declared.keys.CellKey.{CellKey}
use Rattle.world_cells.specs.World.{World}
use Rattle.world_cells.specs.Reads.{covers}
use Rattle.task_forms.specs.declared.tasks.Entry.{Entry}
use Rattle.task_forms.specs.Meaning.{Meaning}
use Rattle.history_model.specs.Commits.{IsTrialOf}
use Rattle.history_model.specs.Histories.{world_at}
use Rattle.run_model.specs.Runs.{Act, joined, Takes}
use Rattle.ordered_pages.specs.Tree.{map_of}
use Rattle.commit_core.specs.declared.cores.Core.{Core}
use Rattle.commit_core.specs.Standing.{StandsFor, meaning_in}
use Rattle.core_steps.specs.declared.steppers.Stepper.{Stepper}
use Rattle.core_steps.specs.declared.steppers.Stepper.TheVariants.{Empty, Waiting, Snapped, Tried}
use Rattle.core_steps.specs.declared.steppers.StepEnd.{StepEnd}
use Rattle.core_steps.specs.declared.steppers.StepEnd.TheVariants as step
use Rattle.core_steps.specs.Stepping.{stage_in, stage_after, IsTold}

module _ (m : Meaning) where
  -- What a stream holds is true of this history: its snapshot is the world of its number, and its trial is one in that world, within the
  -- task's reach there.
  abbrev pub IsReady : ℕ → World → List Entry → Stepper → Type 0
  IsReady first w h Empty = ⊤
  IsReady first w h (Waiting a) = (a.refused ≤ 3) × (a.last ≤ first + length h)
  IsReady first w h (Snapped a s) = (a.refused < 3) × (a.last ≤ s.at) × (first ≤ s.at) × (s.at ≤ first + length h)
      × ((k : CellKey) → map_of s.pages k ≡ m.cells (world_at m first w h s.at) k)
  IsReady first w h (Tried a t) = (a.refused < 3) × (a.last ≤ t.at) × IsTrialOf m first w h t.at a.task t.reads t.writes t.reply
      × ((k : CellKey) → IsTrue (covers t.reads k) → IsTrue (m.reach (world_at m first w h t.at) a.task k))

  -- behind a history, a step led from one state to another by one event of a run
  pub record OneEvent (window first : ℕ) (w : World) (h : List Entry) (by : ℕ) (old new : Stepper) (end : StepEnd) (stands : List Entry → Type 0) : Type 0 where
    pub act : Act
    pub told : IsTold act end
    pub takes : Takes m window first w h by (stage_in old) act (stage_after end new)
    pub stood : stands (h ++ joined act)
    pub ready : IsReady first w (h ++ joined act) new

  abbrev pub Stepped : ℕ → ℕ → World → List Entry → ℕ → Stepper → Stepper → StepEnd → (List Entry → Type 0) → Type 0
  Stepped window first w h by old new step.Worn stands = stands h × (new ≡ Empty)
  Stepped window first w h by old new e stands = OneEvent window first w h by old new e stands

module _ {S K : Type 0} (kind : S → K) (meaning : K → Meaning) where
  -- of every history for which the core stood, and of which the stream's snapshot and trial were
  abbrev pub Steps : Core S → Core S → ℕ → Stepper → Stepper → StepEnd → Type 0
  Steps core core_now by old new end =
      (first : ℕ) (w : World) (h : List Entry) → StandsFor kind meaning core first w h → IsReady (meaning_in kind meaning core) first w h old
      → Stepped (meaning_in kind meaning core) core.tally.log.window first w h by old new end (StandsFor kind meaning core_now first w)
