use Rattle.std.proofs.Common.{ap, sym, w64}
use Rattle.std.proofs.lemmas.Int.{to_z-of_z}
use Rattle.std.specs.Fmt.{signed_decimal}
use Rattle.json_texts.specs.DraftLaws.{adds_then, adds_as}
use Rattle.document_texts.proofs.values.add_integer.Goals as goal

pub returns : goal.returns
returns c = adds_then c.add.ensures (adds_as (ap signed_decimal (sym (to_z-of_z w64 c.args.number c.ranges.number))) c.add_int.ensures)
