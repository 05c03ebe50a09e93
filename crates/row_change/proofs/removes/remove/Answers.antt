use Rattle.row_change.proofs.Removing.{tells_passed, tells_refused, tells_done, reaches, reaches_writing}
use Rattle.row_change.proofs.removes.remove.Goals as goal

pub returns-in_err-row-clause-outcome : goal.returns-in_err-row-clause-outcome
returns-in_err-row-clause-outcome g c =
    tells_passed c.args.step.now.schema.now g.V.View.cells c.args.step.now.pointer.now c.args.lids.now c.args.who.now c.args.recorder.now c.find_target.new.recorder c.in_err-row.field-0.0 c.from_residual.result
    c.from_residual.ensures.0 c.from_residual.ensures.1 (c.in_err-row.ensures.sees c.args.step.now.schema.now)

pub returns-in_err-is_referenced-clause-reach : goal.returns-in_err-is_referenced-clause-reach
returns-in_err-is_referenced-clause-reach g c =
    reaches c.args.step.now.schema.now g.V.View.cells c.args.step.now.pointer.now c.args.lids.now c.args.who.now c.args.recorder.now c.find_target.new.recorder c.is_referenced.new.recorder c.in_ok-row.row
    c.find_target.ensures.looks (c.in_ok-row.ensures.sees c.args.step.now.schema.now) c.is_referenced.ensures.looks

pub returns-in_err-refusal-clause-reach : goal.returns-in_err-refusal-clause-reach
returns-in_err-refusal-clause-reach g c =
    reaches c.args.step.now.schema.now g.V.View.cells c.args.step.now.pointer.now c.args.lids.now c.args.who.now c.args.recorder.now c.find_target.new.recorder c.is_referenced.new.recorder c.in_ok-row.row
    c.find_target.ensures.looks (c.in_ok-row.ensures.sees c.args.step.now.schema.now) c.is_referenced.ensures.looks

pub returns-then-branch-clause-outcome : goal.returns-then-branch-clause-outcome
returns-then-branch-clause-outcome g c =
    tells_refused c.args.step.now.schema.now g.V.View.cells c.args.step.now.pointer.now c.args.lids.now c.args.who.now c.args.recorder.now c.find_target.new.recorder c.is_referenced.new.recorder c.in_ok-row.row
    c.in_ok-is_referenced.field-0 c.in_ok-refusal.refusal c.find_target.ensures.looks (c.in_ok-row.ensures.sees c.args.step.now.schema.now) c.is_referenced.ensures.looks
    (c.in_ok-is_referenced.ensures.sees c.args.step.now.schema.now) c.if-branch.true c.in_ok-refusal.ensures

pub returns-then-branch-clause-reach : goal.returns-then-branch-clause-reach
returns-then-branch-clause-reach g c =
    reaches c.args.step.now.schema.now g.V.View.cells c.args.step.now.pointer.now c.args.lids.now c.args.who.now c.args.recorder.now c.find_target.new.recorder c.is_referenced.new.recorder c.in_ok-row.row
    c.find_target.ensures.looks (c.in_ok-row.ensures.sees c.args.step.now.schema.now) c.is_referenced.ensures.looks

pub returns-in_err-remove_row-clause-reach : goal.returns-in_err-remove_row-clause-reach
returns-in_err-remove_row-clause-reach g c =
    reaches_writing c.args.step.now.schema.now g.V.View.cells c.args.step.now.pointer.now c.args.lids.now c.args.who.now c.args.recorder.now c.find_target.new.recorder c.is_referenced.new.recorder c.remove_row.new.recorder c.in_ok-row.row
    c.find_target.ensures.looks (c.in_ok-row.ensures.sees c.args.step.now.schema.now) c.is_referenced.ensures.looks c.remove_row.ensures.leaves

pub returns-clause-outcome : goal.returns-clause-outcome
returns-clause-outcome g c =
    tells_done c.args.step.now.schema.now g.V.View.cells c.args.step.now.pointer.now c.args.lids.now c.args.who.now c.args.recorder.now c.find_target.new.recorder c.is_referenced.new.recorder c.remove_row.new.recorder c.in_ok-row.row
    c.in_ok-is_referenced.field-0 c.find_target.ensures.looks (c.in_ok-row.ensures.sees c.args.step.now.schema.now) c.is_referenced.ensures.looks
    (c.in_ok-is_referenced.ensures.sees c.args.step.now.schema.now) c.if-branch.false c.remove_row.ensures.leaves c.in_ok-remove_row.ensures.leads

pub returns-clause-reach : goal.returns-clause-reach
returns-clause-reach g c =
    reaches_writing c.args.step.now.schema.now g.V.View.cells c.args.step.now.pointer.now c.args.lids.now c.args.who.now c.args.recorder.now c.find_target.new.recorder c.is_referenced.new.recorder c.remove_row.new.recorder c.in_ok-row.row
    c.find_target.ensures.looks (c.in_ok-row.ensures.sees c.args.step.now.schema.now) c.is_referenced.ensures.looks c.remove_row.ensures.leaves
