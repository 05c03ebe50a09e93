use Rattle.store_model.proofs.laws.sorting_is_exact.Goals as goal
use Rattle.store_model.proofs.Paging.{sorted_exact}

pub returns : goal.returns
returns c = λ sort rows apart. sorted_exact sort rows apart
