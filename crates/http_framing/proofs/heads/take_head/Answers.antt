use Rattle.http_framing.proofs.Takes.{rest_of}
use Rattle.http_framing.proofs.heads.take_head.Goals as goal

pub returns-clause-rest : goal.returns-clause-rest
returns-clause-rest g c = rest_of c.read_stays.ensures _ _ _ _ _ c.take_front.ensures.takes
