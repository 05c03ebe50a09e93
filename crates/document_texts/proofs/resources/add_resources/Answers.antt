use Rattle.std.proofs.Common.{refl}
use Rattle.store_model.specs.Resource.{resource}
use Rattle.json_texts.specs.DraftLaws.{leaves_all, leaves_less}
use Rattle.document_texts.proofs.Items.{items-turn, items-end}
use Rattle.document_texts.proofs.resources.add_resources.Goals as goal

pub loop-row-init : goal.loop-row-init
loop-row-init c = leaves_less leaves_all c.add.ensures refl

pub loop-row-preserved : goal.loop-row-preserved
loop-row-preserved c =
    items-turn (λ row. resource c.args.schema.now row c.args.fields.now) c.args.rows.now c.loop-row.row-index c.row-item.result c.loop-row.later c.loop-row-test.true c.row-item.is
    c.loop-row.invariant c.add_resource_item.ensures

pub returns : goal.returns
returns c =
    items-end (λ row. resource c.args.schema.now row c.args.fields.now) c.args.rows.now c.loop-row.row-index c.loop-row.later c.loop-row-test.false c.loop-row.invariant c.add-2.ensures
