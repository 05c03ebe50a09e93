use Rattle.http_model.proofs.Requests.{requests_unique}
use Rattle.http_model.proofs.laws.requests_are_one.Goals as goal

pub returns : goal.returns
returns c = requests_unique
