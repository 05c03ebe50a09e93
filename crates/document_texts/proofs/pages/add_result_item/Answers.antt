use Rattle.json_texts.specs.DraftLaws.{adds_then}
use Rattle.document_texts.proofs.pages.add_result_item.Goals as goal

pub returns : goal.returns
returns c = adds_then c.add_comma.ensures c.add_result.ensures
