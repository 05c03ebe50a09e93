use Rattle.resource_schema.specs.declared.schema.Schema.{Schema}
use Rattle.trial_steps.specs.Steps.{LooksAt, ReadsWithin, Sees}
use Rattle.include_walk.specs.Reading.{anywhere, reach_along}
use Rattle.include_walk.proofs.Along.{IsWalked}
use Rattle.include_walk.proofs.steps.walk_along.Given as goal

abbrev pub invariant-loop-rel : goal.invariant-loop-rel
invariant-loop-rel g l = record {
  looks : LooksAt anywhere l.initial.recorder l.recorder;
  sees : Sees l.schema g.V.View.cells l.initial.recorder l.recorder (λ now. IsWalked l.schema now l.primary l.path l.rel-index l.level.items l.initial.reached.keys l.reached.keys);
  within : ReadsWithin l.schema g.V.View.cells (reach_along l.schema l.primary l.path) l.initial.recorder l.recorder;
}
