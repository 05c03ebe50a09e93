use Rattle.http_model.proofs.TasksLaw.{message_one}
use Rattle.http_model.proofs.laws.messages_are_one.Goals as goal

pub returns : goal.returns
returns c = message_one c.requests_are_one.ensures
