use Rattle.operation_run.proofs.Listed.{list_done, list_stopped}
use Rattle.operation_run.proofs.lists.run_all.Goals as goal

pub returns-in-Ok : goal.returns-in-Ok
returns-in-Ok g c =
    list_done c.args.schema.now g.V.View.cells c.args.operations.now c.args.recorder.now c.do_all.new.recorder c.in-Ok.list c.has_create.result c.results_reply.result c.requires.unwritten c.has_create.ensures c.in-Ok.ensures c.results_reply.ensures.reply c.results_reply.ensures.status

pub returns-in-Because : goal.returns-in-Because
returns-in-Because g c =
    list_stopped c.args.schema.now g.V.View.cells c.args.operations.now c.args.recorder.now c.do_all.new.recorder c.forget_writes.new.self c.in-Err.stop c.in-Because.refusal c.error_reply.result c.in-Because.is c.requires.unwritten c.forget_writes.ensures c.in-Err.ensures c.error_reply.ensures
