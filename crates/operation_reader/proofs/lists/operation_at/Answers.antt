use Rattle.operation_reader.specs.Parts.{operation_pointer}
use Rattle.operation_reader.proofs.lists.operation_at.Goals as goal

pub returns : goal.returns
unfolding operation_pointer
returns c = c.operation_of.ensures
