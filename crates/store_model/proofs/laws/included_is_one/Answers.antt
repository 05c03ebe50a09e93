use Rattle.store_model.proofs.laws.included_is_one.Goals as goal
use Rattle.store_model.proofs.Uniqueness.{included_is_one}

pub returns : goal.returns
returns c = included_is_one
