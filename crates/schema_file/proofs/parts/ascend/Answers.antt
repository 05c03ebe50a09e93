use Rattle.std.proofs.Common.{refl}
use Rattle.schema_file.proofs.Maps.{ascending}
use Rattle.schema_file.proofs.parts.ascend.Goals as goal

pub returns : goal.returns
returns c = ascending _ (λ a b. refl) _ c.len-count.ensures.ordered
