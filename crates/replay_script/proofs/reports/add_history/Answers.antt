use Rattle.replay_script.specs.Reports.{number_data}
use Rattle.replay_script.proofs.Items.{begun, turn_at, ended}
use Rattle.replay_script.proofs.reports.add_history.Goals as goal

pub loop-number-init : goal.loop-number-init
loop-number-init c = begun number_data c.args.numbers.now c.add.ensures

pub loop-number-preserved : goal.loop-number-preserved
loop-number-preserved c = turn_at number_data c.args.numbers.now c.loop-number.number-index _ c.loop-number.later c.loop-number-test.true c.loop-number.invariant c.add_stream.ensures

pub returns : goal.returns
returns c = ended number_data c.args.numbers.now c.loop-number.number-index c.loop-number.later c.loop-number-test.false c.loop-number.invariant c.add-2.ensures
