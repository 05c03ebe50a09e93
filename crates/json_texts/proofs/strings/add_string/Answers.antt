use Rattle.std.proofs.Common.{ap, sym}
use Rattle.json.specs.Print.{quoted}
use Rattle.json_texts.specs.DraftLaws.{adds_then, adds_as}
use Rattle.json_texts.proofs.strings.add_string.Goals as goal

pub returns : goal.returns
returns c = adds_as (ap quoted (sym c.as_bytes.ensures.value)) (adds_then c.add.ensures (adds_then c.add_escaped.ensures c.add-2.ensures))
