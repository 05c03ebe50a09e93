use Rattle.http_bodies.proofs.BodyRests.{rest_of}
use Rattle.http_bodies.proofs.bodies.take_body.Goals as goal

pub returns-clause-rest : goal.returns-clause-rest
returns-clause-rest g c = rest_of c.read_stays.ensures c.args.framing _ _ _ _ _ c.take_framed.ensures.takes
