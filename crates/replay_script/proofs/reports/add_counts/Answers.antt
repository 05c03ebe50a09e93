use Rattle.replay_script.specs.Reports.{number_data}
use Rattle.replay_script.proofs.Items.{begun, turn_at, ended}
use Rattle.replay_script.proofs.reports.add_counts.Goals as goal

pub loop-count-init : goal.loop-count-init
loop-count-init c = begun number_data c.args.counts.now c.add.ensures

pub loop-count-preserved : goal.loop-count-preserved
loop-count-preserved c = turn_at number_data c.args.counts.now c.loop-count.count-index _ c.loop-count.later c.loop-count-test.true c.loop-count.invariant c.add_count.ensures

pub returns : goal.returns
returns c = ended number_data c.args.counts.now c.loop-count.count-index c.loop-count.later c.loop-count-test.false c.loop-count.invariant c.add-2.ensures
