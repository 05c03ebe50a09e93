use Rattle.store_model.proofs.laws.included_is_reached.Goals as goal
use Rattle.store_model.proofs.Reaching.{included_exactly}

pub returns : goal.returns
returns c = included_exactly
