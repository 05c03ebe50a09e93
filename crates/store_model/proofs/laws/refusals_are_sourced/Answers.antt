use Rattle.store_model.proofs.laws.refusals_are_sourced.Goals as goal
use Rattle.store_model.proofs.Runs.{run_sourced}

pub returns : goal.returns
returns c = λ schema form w operations placed r. run_sourced schema form w operations r placed
