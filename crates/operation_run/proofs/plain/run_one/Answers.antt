use Rattle.operation_run.proofs.Single.{plain_done, plain_refused}
use Rattle.operation_run.proofs.plain.run_one.Goals as goal

pub returns-in-Good : goal.returns-in-Good
returns-in-Good g c =
    plain_done c.args.schema.now c.args.operation.now c.args.form c.requires.plain g.V.View.cells c.new-lids.result c.change.new.lids c.new-lids.ensures c.args.recorder.now c.change.new.recorder c.requires.unwritten c.in-Good.ensures.reads c.in-Good.ensures.reach
    c.in-Good.key c.done_reply.new.recorder c.done_reply.result c.requires.fit c.in-Good.ensures.outcome c.done_reply.ensures.looks c.done_reply.ensures.sees c.done_reply.ensures.status

pub returns-in-Refused : goal.returns-in-Refused
returns-in-Refused g c =
    plain_refused c.args.schema.now c.args.operation.now c.args.form c.requires.plain g.V.View.cells c.new-lids.result c.change.new.lids c.new-lids.ensures c.args.recorder.now c.change.new.recorder c.requires.unwritten c.in-Refused.ensures.reads c.in-Refused.ensures.reach
    c.in-Refused.refusal c.forget_writes.new.self c.error_reply.result c.forget_writes.ensures c.in-Refused.ensures.outcome c.error_reply.ensures
