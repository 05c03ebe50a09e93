use Rattle.json.specs.Print.{escape_byte}
use Rattle.json_texts.specs.DraftLaws.{adds_then}
use Rattle.document_texts.proofs.pages.add_page_links.Goals as goal

pub returns : goal.returns
unfolding escape_byte
returns c = adds_then c.add.ensures (adds_then c.add_link.ensures (adds_then c.add-2.ensures (adds_then c.add_link-2.ensures c.add-3.ensures)))
