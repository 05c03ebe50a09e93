use Rattle.store_model.proofs.laws.store_is_lawful.Goals as goal
use Rattle.store_model.proofs.Lawful.{store_lawful}

pub returns : goal.returns
returns c = store_lawful
