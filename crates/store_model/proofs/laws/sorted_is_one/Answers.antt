use Rattle.store_model.proofs.laws.sorted_is_one.Goals as goal
use Rattle.store_model.proofs.Uniqueness.{sorted_is_one}

pub returns : goal.returns
returns c = sorted_is_one
