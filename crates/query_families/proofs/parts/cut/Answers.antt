use Rattle.std.proofs.Common.{arith}
use Rattle.std.proofs.lemmas.Str.Pattern.{split_once_first}
use Rattle.query_families.proofs.Cuts.{cut-parts}
use Rattle.query_families.proofs.parts.cut.Goals as goal

pub returns-in-Comma : goal.returns-in-Comma
returns-in-Comma c = rw c.in-Comma.is (cut-parts 44 c.args.text.now c.split_once.result (split_once_first 44 c.args.text.now c.split_once.result c.split_once.ensures.cases (omega arith)))

pub returns-in-Dot : goal.returns-in-Dot
returns-in-Dot c = rw c.in-Dot.is (cut-parts 46 c.args.text.now c.split_once-in-Dot.result (split_once_first 46 c.args.text.now c.split_once-in-Dot.result c.split_once-in-Dot.ensures.cases (omega arith)))
