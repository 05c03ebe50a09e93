use Rattle.std.proofs.Common.{◌+◌, take}
use Rattle.store_model.specs.Reach.{is_row_in}
use Rattle.trial_steps.specs.StepLaws.{looks_nothing}
use Rattle.page_select.proofs.KeyLooks.{looks_next, looks_some, rows_end, rows_seen}
use Rattle.page_select.proofs.listed.rows_at.Goals as goal

pub loop-key-init : goal.loop-key-init
loop-key-init g c = record {
  looks = looks_nothing (is_row_in (take 0 c.args.keys.now)) c.args.recorder.now;
  sees = λ schema w now behind leads. c.new-rows.ensures.items;
}

pub loop-key-preserved : goal.loop-key-preserved
loop-key-preserved g c = record {
  looks = looks_next c.args.keys.now c.loop-key.key-index c.key-item.result c.args.recorder.now c.loop-key.recorder c.find_row.new.recorder c.loop-key-test.true c.key-item.is c.loop-key.invariant.looks c.in_ok-found.ensures.looks;
  sees = λ schema. rows_seen schema g.V.View.cells c.args.keys.now c.loop-key.key-index c.key-item.result c.args.recorder.now c.loop-key.recorder c.find_row.new.recorder c.loop-key.rows.items c.push_found.new.rows.items c.in_ok-found.found
      c.loop-key-test.true c.key-item.is c.loop-key.invariant.looks c.in_ok-found.ensures.looks (c.loop-key.invariant.sees schema) (c.in_ok-found.ensures.sees schema) c.in_ok-push_found.ensures;
}

pub returns-in_err-found-clause-looks : goal.returns-in_err-found-clause-looks
returns-in_err-found-clause-looks g c =
    looks_some c.args.keys.now (c.loop-key.key-index + 1) c.args.recorder.now c.find_row.new.recorder
    (looks_next c.args.keys.now c.loop-key.key-index c.key-item.result c.args.recorder.now c.loop-key.recorder c.find_row.new.recorder c.loop-key-test.true c.key-item.is c.loop-key.invariant.looks c.in_err-found.ensures.looks)

pub returns-in_err-push_found-clause-looks : goal.returns-in_err-push_found-clause-looks
returns-in_err-push_found-clause-looks g c =
    looks_some c.args.keys.now (c.loop-key.key-index + 1) c.args.recorder.now c.find_row.new.recorder
    (looks_next c.args.keys.now c.loop-key.key-index c.key-item.result c.args.recorder.now c.loop-key.recorder c.find_row.new.recorder c.loop-key-test.true c.key-item.is c.loop-key.invariant.looks c.in_ok-found.ensures.looks)

pub returns-clause-looks : goal.returns-clause-looks
returns-clause-looks g c = looks_some c.args.keys.now c.loop-key.key-index c.args.recorder.now c.loop-key.recorder c.loop-key.invariant.looks

pub returns-clause-sees : goal.returns-clause-sees
returns-clause-sees g c = λ schema. rows_end schema g.V.View.cells c.args.keys.now c.loop-key.key-index c.args.recorder.now c.loop-key.recorder c.loop-key.rows.items c.loop-key-test.false (c.loop-key.invariant.sees schema)
