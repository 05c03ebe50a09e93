use Rattle.std.proofs.Common.{List, sym, ap}
use Rattle.std.specs.Prelude.{◌||◌}
use Rattle.std.proofs.Math.ListN.{drop_of_length-le}
use Rattle.ident_rules.specs.declared.key.Key.{Key}
use Rattle.store_model.specs.Included.{has_key, reached_keys}
use Rattle.trial_steps.specs.StepLaws.{looks_nothing, looks_on}
use Rattle.include_walk.specs.Reading.{anywhere}
use Rattle.include_walk.proofs.Along.{paths_end}
use Rattle.include_walk.proofs.Walking.{path_seen, path_within}
use Rattle.include_walk.proofs.walks.walk_all.Goals as goal

pub loop-path-init : goal.loop-path-init
loop-path-init g c = record {
  looks = looks_nothing anywhere c.args.recorder.now;
  sees = λ w now behind leads q. sym (ap (λ (ks : List Key). has_key ks q || has_key (reached_keys c.args.schema.now now c.args.primary.now c.args.paths.now) q) c.new-reached.ensures.empty);
  within = λ w now valid same now_valid leads k new old. cc (new, old);
}

pub loop-path-preserved : goal.loop-path-preserved
loop-path-preserved g c = record {
  looks = looks_on anywhere anywhere anywhere c.args.recorder.now c.loop-path.recorder c.walk_along.new.recorder (λ k e. e) (λ k e. e) c.loop-path.invariant.looks c.in_ok-walk_along.ensures.looks;
  sees = path_seen c.args.schema.now g.V.View.cells c.args.primary.now c.args.paths.now c.loop-path.path-index c.path-item.result c.as_slice-rels.result.now c.args.recorder.now c.loop-path.recorder c.walk_along.new.recorder c.loop-path.reached.keys c.walk_along.new.reached.keys
      c.loop-path-test.true c.path-item.is c.as_slice-rels.ensures c.loop-path.invariant.looks c.in_ok-walk_along.ensures.looks c.loop-path.invariant.sees c.in_ok-walk_along.ensures.sees;
  within = path_within c.args.schema.now g.V.View.cells c.args.primary.now c.args.paths.now c.loop-path.path-index c.path-item.result c.as_slice-rels.result.now c.args.recorder.now c.loop-path.recorder c.walk_along.new.recorder c.loop-path-test.true c.path-item.is
      c.as_slice-rels.ensures c.loop-path.invariant.looks c.loop-path.invariant.within c.in_ok-walk_along.ensures.reach;
}

pub returns-in_err-walk_along-clause-reach : goal.returns-in_err-walk_along-clause-reach
returns-in_err-walk_along-clause-reach g c =
    path_within c.args.schema.now g.V.View.cells c.args.primary.now c.args.paths.now c.loop-path.path-index c.path-item.result c.as_slice-rels.result.now c.args.recorder.now c.loop-path.recorder c.walk_along.new.recorder c.loop-path-test.true c.path-item.is
    c.as_slice-rels.ensures c.loop-path.invariant.looks c.loop-path.invariant.within c.in_err-walk_along.ensures.reach

pub returns-clause-sees : goal.returns-clause-sees
returns-clause-sees g c = λ w now behind leads.
    paths_end c.args.schema.now now c.args.primary.now c.args.paths.now c.loop-path.path-index c.loop-path.reached.keys (drop_of_length-le c.args.paths.now c.loop-path-test.false) (c.loop-path.invariant.sees w now behind leads)
