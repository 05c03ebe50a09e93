use Rattle.json_texts.specs.DraftLaws.{adds_then}
use Rattle.document_texts.proofs.names.add_path.Goals as goal

pub returns : goal.returns
returns c = adds_then c.add.ensures (adds_then c.add-2.ensures c.add-3.ensures)
