use Rattle.std.proofs.Common.{arith}
use Rattle.json_texts.specs.DraftLaws.{leaves_all, leaves_less, leaves_none}
use Rattle.json_texts.proofs.Escapes.{escape-to_stop, escape-at, escape-done}
use Rattle.json_texts.proofs.strings.add_escaped.Goals as goal

pub loop-at-init : goal.loop-at-init
loop-at-init c = record { within = omega arith; leaves = leaves_all }

pub returns-then-stop-text : goal.returns-then-stop-text
returns-then-stop-text c =
    let text = c.args.text.now in
    let stop = c.plain_end-stop.result in
    let so_far = leaves_less c.loop-at.invariant.leaves c.add.ensures (escape-to_stop text c.loop-at.at stop c.plain_end-stop.ensures.value) in
    leaves_none so_far (escape-done text stop (omega arith))

pub loop-at-preserved : goal.loop-at-preserved
loop-at-preserved c =
    let text = c.args.text.now in
    let stop = c.plain_end-stop.result in
    let so_far = leaves_less c.loop-at.invariant.leaves c.add.ensures (escape-to_stop text c.loop-at.at stop c.plain_end-stop.ensures.value) in
    record { within = omega arith; leaves = leaves_less so_far c.add_byte.ensures (escape-at text stop (omega arith)) }
