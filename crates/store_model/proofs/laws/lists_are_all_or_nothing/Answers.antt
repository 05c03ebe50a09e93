use Rattle.store_model.proofs.laws.lists_are_all_or_nothing.Goals as goal
use Rattle.store_model.proofs.Runs.{all_or_nothing}

pub returns : goal.returns
returns c = all_or_nothing
