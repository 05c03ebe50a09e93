use Rattle.json_texts.specs.DraftLaws.{adds_then, adds_as}
use Rattle.compound_document.proofs.Drafts.{one-text}
use Rattle.compound_document.proofs.texts.add_one.Goals as goal

pub returns : goal.returns
returns c =
    adds_as (one-text c.args.schema.now c.args.query.now c.args.row.now c.args.beside.now)
    (adds_then c.add.ensures
    (adds_then c.add_row.ensures
    (adds_then c.add_beside.ensures
    c.add-2.ensures)))
