use Rattle.json_texts.specs.DraftLaws.{adds_then}
use Rattle.compound_document.proofs.texts.add_included.Goals as goal

pub returns : goal.returns
returns c = adds_then c.add.ensures c.add_rows.ensures
