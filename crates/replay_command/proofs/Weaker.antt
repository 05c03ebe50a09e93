-- What is reported of a core that stands for its history is reported of a legal history.
use Rattle.std.proofs.Common.{ℕ, List}
use Rattle.world_cells.specs.World.{World}
use Rattle.task_forms.specs.declared.tasks.Entry.{Entry}
use Rattle.task_forms.specs.Meaning.{Meaning}
use Rattle.session_engine.specs.Plans.{TaskPlans}
use Rattle.replay_runs.specs.declared.reports.Report.{Report}
use Rattle.replay_runs.specs.Running.{IsReported}

pub weaker : (m : Meaning) (plans : TaskPlans) (window : ℕ) (w : World) (inputs : List (List ℕ)) (steps : List ℕ) (r : Report) (stands other : List Entry → Type 0)
    → ((h : List Entry) → stands h → other h) → IsReported m plans window w inputs steps r stands → IsReported m plans window w inputs steps r other
weaker m plans window w inputs steps r stands other so is = record {
  events = is.events;
  counts = is.counts;
  turns = is.turns;
  run = is.run;
  told = is.told;
  stood = so _ is.stood;
  rebuilds = is.rebuilds;
  sizes = is.sizes;
  each = is.each;
}
