use Rattle.std.proofs.Common.{sym}
use Rattle.std.specs.Prelude.{codes}
use Rattle.request_model.specs.Values.{value_data}
use Rattle.json_texts.specs.DraftLaws.{adds_then, adds_as}
use Rattle.document_texts.proofs.ObjectTexts.{shown-parts}
use Rattle.document_texts.proofs.attributes.add_member.Goals as goal

pub returns : goal.returns
returns c =
    adds_as (shown-parts (codes "attributes") c.args.attribute.now.name c.args.begun (value_data c.args.value.now))
    (adds_then c.add_opening.ensures (adds_then (adds_as (sym c.name_text.ensures) c.add.ensures) c.add_value.ensures))
