use Rattle.std.proofs.Common.{take}
use Rattle.store_model.specs.Included.{step}
use Rattle.store_model.specs.Reach.{is_row_in}
use Rattle.trial_steps.specs.Steps.{LooksAt, Sees}
use Rattle.include_walk.specs.Sets.{AreSame}
use Rattle.include_walk.proofs.steps.step.Given as goal

abbrev pub invariant-loop-key : goal.invariant-loop-key
invariant-loop-key g l = record {
  looks : LooksAt (is_row_in (take l.key-index l.keys)) l.initial.recorder l.recorder;
  sees : Sees l.schema g.V.View.cells l.initial.recorder l.recorder (λ now. AreSame l.next.keys (step l.schema now l.rel (take l.key-index l.keys)));
}
