use Rattle.store_model.proofs.laws.rows_are_the_worlds.Goals as goal
use Rattle.store_model.proofs.WorldRows.{rows_of_exactly, rows_at_exactly}

pub returns-clause-of_type : goal.returns-clause-of_type
returns-clause-of_type c = λ schema w kind valid. rows_of_exactly schema w valid kind

pub returns-clause-at_keys : goal.returns-clause-at_keys
returns-clause-at_keys c = λ schema w keys valid. rows_at_exactly schema w valid keys
