use Rattle.json_texts.specs.DraftLaws.{adds_then}
use Rattle.document_texts.proofs.resources.add_resource_item.Goals as goal

pub returns : goal.returns
returns c = adds_then c.add_comma.ensures c.add_resource.ensures
