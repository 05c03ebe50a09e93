use Rattle.std.proofs.Common.{◌+◌, List, take, ap, arith}
use Rattle.ident_rules.specs.declared.key.Key.{Key}
use Rattle.store_model.specs.Included.{has_key}
use Rattle.store_model.specs.Reach.{is_row_in}
use Rattle.trial_steps.specs.StepLaws.{looks_nothing}
use Rattle.include_walk.proofs.KeyLooks.{looks_next, looks_some}
use Rattle.include_walk.proofs.Walking.{step_seen, step_ends}
use Rattle.include_walk.proofs.steps.step.Goals as goal

pub loop-key-init : goal.loop-key-init
loop-key-init g c = record {
  looks = looks_nothing (is_row_in (take 0 c.args.keys.now)) c.args.recorder.now;
  sees = λ w now behind leads q. ap (λ (ks : List Key). has_key ks q) c.new-next.ensures.empty;
}

pub loop-key-preserved : goal.loop-key-preserved
loop-key-preserved g c = record {
  looks = looks_next c.args.keys.now c.loop-key.key-index c.key-item.result c.args.recorder.now c.loop-key.recorder c.insert_next.new.recorder c.loop-key-test.true c.key-item.is c.loop-key.invariant.looks c.in_ok-insert_next.ensures.looks;
  sees = step_seen c.args.schema.now g.V.View.cells c.args.rel c.args.keys.now c.loop-key.key-index c.key-item.result c.args.recorder.now c.loop-key.recorder c.insert_next.new.recorder c.loop-key.next.keys c.insert_next.new.next.keys
      c.loop-key-test.true c.key-item.is c.loop-key.invariant.looks c.in_ok-insert_next.ensures.looks c.loop-key.invariant.sees c.in_ok-insert_next.ensures.sees;
}

pub returns-in_err-insert_next-clause-looks : goal.returns-in_err-insert_next-clause-looks
returns-in_err-insert_next-clause-looks g c =
    looks_some c.args.keys.now (c.loop-key.key-index + 1) c.args.recorder.now c.insert_next.new.recorder
    (looks_next c.args.keys.now c.loop-key.key-index c.key-item.result c.args.recorder.now c.loop-key.recorder c.insert_next.new.recorder c.loop-key-test.true c.key-item.is c.loop-key.invariant.looks c.in_err-insert_next.ensures.looks)

pub returns-clause-looks : goal.returns-clause-looks
returns-clause-looks g c = looks_some c.args.keys.now c.loop-key.key-index c.args.recorder.now c.loop-key.recorder c.loop-key.invariant.looks

pub returns-clause-sees : goal.returns-clause-sees
returns-clause-sees g c = step_ends c.args.schema.now g.V.View.cells c.args.rel c.args.keys.now c.loop-key.key-index c.args.recorder.now c.loop-key.recorder c.loop-key.next.keys c.loop-key-test.false c.loop-key.invariant.sees
