use Rattle.std.proofs.Common.{ap, ◌∙◌, sym}
use Rattle.std.specs.Prelude.{nat_lt}
use Rattle.schema_file.proofs.Maps.{length-members}
use Rattle.schema_file.proofs.parts.exceeds.Goals as goal

pub returns : goal.returns
returns c = ap (nat_lt c.args.limit) (c.len.ensures.len ∙ sym (length-members _))
