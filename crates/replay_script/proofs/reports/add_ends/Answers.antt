use Rattle.replay_script.specs.Reports.{end_data}
use Rattle.replay_script.proofs.Items.{begun, turn_at, ended}
use Rattle.replay_script.proofs.reports.add_ends.Goals as goal

pub loop-end-init : goal.loop-end-init
loop-end-init c = begun end_data c.args.ends.now c.add.ensures

pub loop-end-preserved : goal.loop-end-preserved
loop-end-preserved c = turn_at end_data c.args.ends.now c.loop-end.end-index _ c.loop-end.later c.loop-end-test.true c.loop-end.invariant c.add_end.ensures

pub returns : goal.returns
returns c = ended end_data c.args.ends.now c.loop-end.end-index c.loop-end.later c.loop-end-test.false c.loop-end.invariant c.add-2.ensures
