use Rattle.json_texts.specs.DraftLaws.{adds_then, adds_as}
use Rattle.compound_document.specs.Documents.{links_data}
use Rattle.compound_document.proofs.Drafts.{page-text}
use Rattle.compound_document.proofs.texts.add_page.Goals as goal

pub returns : goal.returns
returns c =
    adds_as
    (page-text c.args.schema.now c.args.query.now c.args.rows.now c.args.beside.now (links_data c.args.links.now.0 c.args.links.now.1) c.args.truncated)
    (adds_then c.add.ensures
    (adds_then c.add_rows.ensures
    (adds_then c.add_beside.ensures
    (adds_then c.add-2.ensures
    (adds_then c.add_links.ensures
    (adds_then c.add_meta.ensures
    c.add-3.ensures))))))
