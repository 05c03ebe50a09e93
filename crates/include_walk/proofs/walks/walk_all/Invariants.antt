use Rattle.store_model.specs.Reach.{reach_walk}
use Rattle.trial_steps.specs.Steps.{LooksAt, ReadsWithin, Sees}
use Rattle.include_walk.specs.Reading.{anywhere}
use Rattle.include_walk.proofs.Along.{IsWalkedTo}
use Rattle.include_walk.proofs.walks.walk_all.Given as goal

abbrev pub invariant-loop-path : goal.invariant-loop-path
invariant-loop-path g l = record {
  looks : LooksAt anywhere l.initial.recorder l.recorder;
  sees : Sees l.schema g.V.View.cells l.initial.recorder l.recorder (λ now. IsWalkedTo l.schema now l.primary l.paths l.path-index l.reached.keys);
  within : ReadsWithin l.schema g.V.View.cells (reach_walk l.schema l.primary l.paths) l.initial.recorder l.recorder;
}
