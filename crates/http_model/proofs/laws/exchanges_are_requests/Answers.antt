use Rattle.http_model.proofs.ExchangesLaw.{are_requests, runs_count}
use Rattle.http_model.proofs.ServedLaw.{served_all, served_failed}
use Rattle.http_model.proofs.laws.exchanges_are_requests.Goals as goal

pub returns : goal.returns
returns g c = record { all = are_requests; served = served_all; failed = served_failed; counted = runs_count }
