use Rattle.request_model.proofs.TargetFits.{target-known}
use Rattle.request_model.proofs.laws.found_target_is_known.Goals as goal

pub returns : goal.returns
returns c = target-known
