use Rattle.session_engine.proofs.Calls.{go_on}
use Rattle.session_engine.proofs.laws.sessions_go_on.Goals as goal

pub returns : goal.returns
returns c = go_on c.read_stays.ensures
