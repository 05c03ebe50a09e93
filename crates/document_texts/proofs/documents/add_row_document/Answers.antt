use Rattle.json.specs.Print.{escape_byte}
use Rattle.json_texts.specs.DraftLaws.{adds_then}
use Rattle.document_texts.proofs.documents.add_row_document.Goals as goal

pub returns : goal.returns
unfolding escape_byte
returns c = adds_then c.add.ensures (adds_then c.add_resource.ensures c.add-2.ensures)
