use Rattle.std.proofs.Common.{sym}
use Rattle.resource_schema.specs.Kinds.{kind_name}
use Rattle.json_texts.specs.DraftLaws.{adds_then, adds_as}
use Rattle.document_texts.proofs.ObjectTexts.{item-text}
use Rattle.document_texts.proofs.identifiers.add_item.Goals as goal

pub returns : goal.returns
returns c =
    adds_as (item-text c.args.later c.args.id.now (kind_name c.args.schema.now c.args.target))
    (adds_then c.add_opening.ensures (adds_then (adds_as (sym c.id_text.ensures) c.add.ensures) (adds_then c.add-2.ensures (adds_then (adds_as (sym c.requires) c.add-3.ensures) c.add-4.ensures))))
