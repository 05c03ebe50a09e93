use Rattle.std.proofs.Common.{refl}
use Rattle.json_texts.specs.DraftLaws.{leaves_all, leaves_less}
use Rattle.document_texts.specs.Texts.{identifier_of}
use Rattle.document_texts.proofs.Items.{items-turn, items-end}
use Rattle.document_texts.proofs.identifiers.add_identifiers.Goals as goal

pub loop-id-init : goal.loop-id-init
loop-id-init c = leaves_less leaves_all c.add.ensures refl

pub loop-id-preserved : goal.loop-id-preserved
loop-id-preserved c =
    items-turn (identifier_of c.args.schema.now c.args.target) c.args.ids.now c.loop-id.id-index c.id-item.result c.loop-id.later c.loop-id-test.true c.id-item.is
    c.loop-id.invariant c.add_item.ensures

pub returns : goal.returns
returns c = items-end (identifier_of c.args.schema.now c.args.target) c.args.ids.now c.loop-id.id-index c.loop-id.later c.loop-id-test.false c.loop-id.invariant c.add-2.ensures
