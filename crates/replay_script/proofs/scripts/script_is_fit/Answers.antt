use Rattle.replay_script.proofs.Fits.{script-fits}
use Rattle.replay_script.proofs.scripts.script_is_fit.Goals as goal

pub returns-clause-few : goal.returns-clause-few
returns-clause-few c bytes s is = (script-fits bytes s is).0

pub returns-clause-within : goal.returns-clause-within
returns-clause-within c bytes s is = (script-fits bytes s is).1
