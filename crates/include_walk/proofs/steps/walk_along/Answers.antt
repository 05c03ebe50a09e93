use Rattle.std.proofs.Math.ListN.{drop_of_length-le}
use Rattle.store_model.specs.Reach.{is_row_in}
use Rattle.trial_steps.specs.StepLaws.{looks_nothing, looks_on}
use Rattle.std.proofs.Common.{refl}
use Rattle.include_walk.specs.Reading.{anywhere}
use Rattle.include_walk.proofs.Along.{walk_begins, walk_ends}
use Rattle.include_walk.proofs.Walking.{walk_seen, walk_within}
use Rattle.include_walk.proofs.steps.walk_along.Goals as goal

pub loop-rel-init : goal.loop-rel-init
loop-rel-init g c = record {
  looks = looks_nothing anywhere c.args.recorder.now;
  sees = λ w now behind leads. walk_begins c.args.schema.now now c.args.primary.now c.args.path.now c.in_ok-level.level.items c.args.reached.now.keys c.in_ok-level.ensures.items;
  within = λ w now valid same now_valid leads k new old. cc (new, old);
}

pub loop-rel-preserved : goal.loop-rel-preserved
loop-rel-preserved g c = record {
  looks = looks_on anywhere (is_row_in c.as_slice-from.result.now) anywhere c.args.recorder.now c.loop-rel.recorder c.step.new.recorder (λ k e. e) (λ k e. refl) c.loop-rel.invariant.looks c.in_ok-next.ensures.looks;
  sees = walk_seen c.args.schema.now g.V.View.cells c.args.primary.now c.args.path.now c.loop-rel.rel-index _ c.args.recorder.now c.loop-rel.recorder c.step.new.recorder c.loop-rel.level.items c.as_slice-from.result.now c.in_ok-next.next.keys c.in_ok-level-2.level.items c.as_slice-found.result.now
      c.args.reached.now.keys c.loop-rel.reached.keys c.insert_all.new.set.keys c.loop-rel-test.true c.as_slice-from.ensures.value c.in_ok-level-2.ensures.same c.as_slice-found.ensures.value c.loop-rel.invariant.looks c.in_ok-next.ensures.looks c.loop-rel.invariant.sees c.in_ok-next.ensures.sees c.in_ok-insert_all.ensures;
  within = walk_within c.args.schema.now g.V.View.cells c.args.primary.now c.args.path.now c.loop-rel.rel-index c.args.recorder.now c.loop-rel.recorder c.step.new.recorder c.loop-rel.level.items c.as_slice-from.result.now c.args.reached.now.keys c.loop-rel.reached.keys
      c.as_slice-from.ensures.value c.loop-rel.invariant.looks c.in_ok-next.ensures.looks c.loop-rel.invariant.sees c.loop-rel.invariant.within;
}

pub returns-clause-sees : goal.returns-clause-sees
returns-clause-sees g c = λ w now behind leads.
    walk_ends c.args.schema.now now c.args.primary.now c.args.path.now c.loop-rel.rel-index c.loop-rel.level.items c.args.reached.now.keys c.loop-rel.reached.keys (drop_of_length-le c.args.path.now c.loop-rel-test.false) (c.loop-rel.invariant.sees w now behind leads)

pub returns-in_err-next-clause-reach : goal.returns-in_err-next-clause-reach
returns-in_err-next-clause-reach g c =
    walk_within c.args.schema.now g.V.View.cells c.args.primary.now c.args.path.now c.loop-rel.rel-index c.args.recorder.now c.loop-rel.recorder c.step.new.recorder c.loop-rel.level.items c.as_slice-from.result.now c.args.reached.now.keys c.loop-rel.reached.keys
    c.as_slice-from.ensures.value c.loop-rel.invariant.looks c.in_err-next.ensures.looks c.loop-rel.invariant.sees c.loop-rel.invariant.within

pub returns-in_err-level-2-clause-reach : goal.returns-in_err-level-2-clause-reach
returns-in_err-level-2-clause-reach g c =
    walk_within c.args.schema.now g.V.View.cells c.args.primary.now c.args.path.now c.loop-rel.rel-index c.args.recorder.now c.loop-rel.recorder c.step.new.recorder c.loop-rel.level.items c.as_slice-from.result.now c.args.reached.now.keys c.loop-rel.reached.keys
    c.as_slice-from.ensures.value c.loop-rel.invariant.looks c.in_ok-next.ensures.looks c.loop-rel.invariant.sees c.loop-rel.invariant.within

pub returns-in_err-insert_all-clause-reach : goal.returns-in_err-insert_all-clause-reach
returns-in_err-insert_all-clause-reach g c =
    walk_within c.args.schema.now g.V.View.cells c.args.primary.now c.args.path.now c.loop-rel.rel-index c.args.recorder.now c.loop-rel.recorder c.step.new.recorder c.loop-rel.level.items c.as_slice-from.result.now c.args.reached.now.keys c.loop-rel.reached.keys
    c.as_slice-from.ensures.value c.loop-rel.invariant.looks c.in_ok-next.ensures.looks c.loop-rel.invariant.sees c.loop-rel.invariant.within
