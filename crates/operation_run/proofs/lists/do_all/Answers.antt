use Rattle.operation_run.proofs.Listed.{drop_next, fits_next, run_begun, run_ended, run_next}
use Rattle.operation_run.proofs.lists.do_all.Goals as goal

pub loop-number-init : goal.loop-number-init
loop-number-init g c = run_begun c.args.schema.now g.V.View.cells c.args.operations.now c.args.recorder.now c.begun-list.result c.requires.unwritten c.begun-list.ensures.lids c.begun-list.ensures.results

pub loop-number-preserved : goal.loop-number-preserved
loop-number-preserved g c =
    let split = drop_next c.args.operations.now c.loop-number.number c.index-operations-number.result c.loop-number-test.true c.index-operations-number.is in
    run_next c.args.schema.now g.V.View.cells c.args.operations.now c.loop-number.number c.index-operations-number.result split c.args.recorder.now c.loop-number.recorder c.do_next.new.recorder c.loop-number.list c.do_next.new.list c.loop-number.invariant c.in-Ok.ensures.follows
    c.in-Ok.field-0 (fits_next c.args.schema.now c.args.operations.now c.loop-number.number c.index-operations-number.result split c.requires.fit) c.in-Ok.ensures.tells c.in-Ok.ensures.reach

pub returns-in-Err : goal.returns-in-Err
returns-in-Err g c =
    let split = drop_next c.args.operations.now c.loop-number.number c.index-operations-number.result c.loop-number-test.true c.index-operations-number.is in
    run_ended c.args.schema.now g.V.View.cells c.args.operations.now c.loop-number.number c.index-operations-number.result split c.args.recorder.now c.loop-number.recorder c.do_next.new.recorder c.loop-number.list c.do_next.new.list c.loop-number.invariant c.in-Err.ensures.follows
    c.in-Err.stop c.in-Err.ensures.tells c.in-Err.ensures.reach
