use Rattle.std.proofs.Common.{◌++◌, ap, sym}
use Rattle.std.specs.Prelude.{codes}
use Rattle.json.specs.Print.{quoted}
use Rattle.json_texts.specs.DraftLaws.{adds_then, adds_as}
use Rattle.document_texts.proofs.values.add_text.Goals as goal

pub returns : goal.returns
returns c = adds_as (ap (λ t. codes "\":" ++ quoted t) (sym c.as_bytes.ensures.value)) (adds_then c.add.ensures (adds_then c.add_escaped.ensures c.add-2.ensures))
