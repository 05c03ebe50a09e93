use Rattle.std.proofs.Common.{◌++◌, refl, None}
use Rattle.store_model.specs.Reach.{is_row_in, target_keys}
use Rattle.store_model.specs.Change.{member_ids}
use Rattle.row_change.specs.declared.updates.Rewrite.{Rewrite}
use Rattle.row_change.specs.LinkChanges.{operation_of, link_keys, ids_by, link_change, IsRelinked}
use Rattle.row_change.proofs.RewriteOutcomes.{stopped, rewritten, in_reach, in_reach_written}
use Rattle.row_change.proofs.MemberSteps.{on_link_length}
use Rattle.row_change.proofs.MemberChanges.{world_by, lids_by, no_key_by, reach_by}
use Rattle.row_change.proofs.members.change_link.Goals as goal

pub returns-in_err-rewrite-clause-outcome : goal.returns-in_err-rewrite-clause-outcome
returns-in_err-rewrite-clause-outcome g c =
    stopped {T = Rewrite} c.args.step.now.schema.now g.V.View.cells c.args.step.now.pointer.now (operation_of c.args.operation.now) c.args.lids.now c.args.lids.now c.args.recorder.now c.relinked_row.new.recorder
    (IsRelinked c.args.operation.now c.args.lids.now)
    c.in_err-rewrite.field-0.0 c.from_residual.result c.from_residual.ensures.0 c.from_residual.ensures.1 (c.in_err-rewrite.ensures.sees c.args.step.now.schema.now)

pub returns-in_err-rewrite-clause-reach : goal.returns-in_err-rewrite-clause-reach
returns-in_err-rewrite-clause-reach g c =
    let o = c.args.operation.now in
    in_reach c.args.step.now.schema.now g.V.View.cells (operation_of o) c.args.lids.now (is_row_in (target_keys c.args.lids.now o.who.now ++ link_keys o c.args.lids.now)) c.args.recorder.now c.relinked_row.new.recorder
    (λ now k e. reach_by c.args.step.now.schema.now now c.args.lids.now o.who.now o.rel o.members.now o.change k e) c.relinked_row.ensures.looks

pub returns-clause-outcome : goal.returns-clause-outcome
returns-clause-outcome g c =
    let o = c.args.operation.now in
    let schema = c.args.step.now.schema.now in
    rewritten schema g.V.View.cells c.args.step.now.pointer.now (operation_of o) c.args.lids.now o.who.now
    (link_change o c.args.lids.now) None
    c.in_ok-rewrite.rewrite.old c.in_ok-rewrite.rewrite.new (is_row_in (target_keys c.args.lids.now o.who.now ++ link_keys o c.args.lids.now))
    c.args.recorder.now c.relinked_row.new.recorder c.put_row.new.recorder
    (λ now. world_by schema now c.args.lids.now o.who.now o.rel o.members.now o.change) (λ now. lids_by schema now c.args.lids.now o.who.now o.rel o.members.now o.change)
    (λ now named own. no_key_by schema now c.args.lids.now o.who.now o.rel o.members.now o.change)
    (λ row. refl) (λ row. on_link_length o.rel (ids_by o.change (member_ids c.args.lids.now o.members.now)) row)
    c.relinked_row.ensures.looks (c.in_ok-rewrite.ensures.sees schema) c.in_ok-put_row.ensures.leaves c.in_ok-put_row.ensures.leads

pub returns-in_err-put_row-clause-reach : goal.returns-in_err-put_row-clause-reach
returns-in_err-put_row-clause-reach g c =
    let o = c.args.operation.now in
    in_reach_written c.args.step.now.schema.now g.V.View.cells (operation_of o) c.args.lids.now c.args.recorder.now c.relinked_row.new.recorder c.put_row.new.recorder c.put_row.ensures.leaves
    (in_reach c.args.step.now.schema.now g.V.View.cells (operation_of o) c.args.lids.now (is_row_in (target_keys c.args.lids.now o.who.now ++ link_keys o c.args.lids.now)) c.args.recorder.now c.relinked_row.new.recorder
    (λ now k e. reach_by c.args.step.now.schema.now now c.args.lids.now o.who.now o.rel o.members.now o.change k e) c.relinked_row.ensures.looks)

pub returns-clause-reach : goal.returns-clause-reach
returns-clause-reach g c =
    let o = c.args.operation.now in
    in_reach_written c.args.step.now.schema.now g.V.View.cells (operation_of o) c.args.lids.now c.args.recorder.now c.relinked_row.new.recorder c.put_row.new.recorder c.put_row.ensures.leaves
    (in_reach c.args.step.now.schema.now g.V.View.cells (operation_of o) c.args.lids.now (is_row_in (target_keys c.args.lids.now o.who.now ++ link_keys o c.args.lids.now)) c.args.recorder.now c.relinked_row.new.recorder
    (λ now k e. reach_by c.args.step.now.schema.now now c.args.lids.now o.who.now o.rel o.members.now o.change k e) c.relinked_row.ensures.looks)
