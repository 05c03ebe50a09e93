use Rattle.store_model.proofs.laws.page_is_one.Goals as goal
use Rattle.store_model.proofs.Uniqueness.{page_is_one}

pub returns : goal.returns
returns c = page_is_one
