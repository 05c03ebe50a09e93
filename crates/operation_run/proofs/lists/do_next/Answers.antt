use Rattle.std.proofs.Common.{Option, refl, subst, true}
use Rattle.std.specs.Prelude.{IsTrue}
use Rattle.ident_rules.specs.declared.key.Key.{Key}
use Rattle.store_model.specs.Reach.{is_row_in}
use Rattle.operation_run.specs.Texts.{keys_of}
use Rattle.operation_run.proofs.KeyReach.{created_in}
use Rattle.operation_run.proofs.Listed.{tells_done, tells_refused}
use Rattle.operation_run.proofs.Steps.{reads_both}
use Rattle.operation_run.proofs.lists.do_next.Goals as goal

pub returns-in_ok-add_result-in-Good-clause-tells : goal.returns-in_ok-add_result-in-Good-clause-tells
returns-in_ok-add_result-in-Good-clause-tells g c =
    tells_done c.args.schema.now g.V.View.cells c.args.number c.args.operation.now c.args.list.now (record { lids = c.change.new.lids; results = c.add_result.new.draft; later = true }) c.args.recorder.now c.change.new.recorder
    c.change.new.lids c.in-Good.key c.result_key-created.result c.add_result.new.recorder c.result_key-created.ensures c.requires.fit c.in-Good.ensures.reads c.in-Good.ensures.outcome
    c.in_ok-add_result-in-Good.ensures.looks c.in_ok-add_result-in-Good.ensures.sees refl refl

pub returns-in_ok-add_result-in-Good-clause-reach : goal.returns-in_ok-add_result-in-Good-clause-reach
returns-in_ok-add_result-in-Good-clause-reach g c =
    reads_both c.args.schema.now g.V.View.cells c.args.operation.now c.args.list.now.lids c.change.new.lids c.in-Good.key c.args.recorder.now c.change.new.recorder c.in-Good.ensures.outcome c.result_key-created.result c.add_result.new.recorder c.add_result.ensures.looks
    (λ k e. created_in c.args.operation.now c.in-Good.key k (subst (λ (o : Option Key). IsTrue (is_row_in (keys_of o) k)) c.result_key-created.ensures e)) c.in-Good.ensures.reach

pub returns-in_err-add_result-in-Good-clause-reach : goal.returns-in_err-add_result-in-Good-clause-reach
returns-in_err-add_result-in-Good-clause-reach g c =
    reads_both c.args.schema.now g.V.View.cells c.args.operation.now c.args.list.now.lids c.change.new.lids c.in-Good.key c.args.recorder.now c.change.new.recorder c.in-Good.ensures.outcome c.result_key-created.result c.add_result.new.recorder c.add_result.ensures.looks
    (λ k e. created_in c.args.operation.now c.in-Good.key k (subst (λ (o : Option Key). IsTrue (is_row_in (keys_of o) k)) c.result_key-created.ensures e)) c.in-Good.ensures.reach

pub returns-in_ok-told-in-Refused-clause-tells : goal.returns-in_ok-told-in-Refused-clause-tells
returns-in_ok-told-in-Refused-clause-tells g c =
    tells_refused c.args.schema.now g.V.View.cells c.args.number c.args.operation.now c.args.list.now (record { lids = c.change.new.lids; results = c.args.list.now.results; later = c.args.list.now.later }) c.args.recorder.now c.change.new.recorder
    c.change.new.lids c.in-Refused.refusal c.in_ok-told-in-Refused.told c.in-Refused.ensures.outcome c.in_ok-told-in-Refused.ensures
