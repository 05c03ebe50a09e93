use Rattle.http_model.proofs.TasksLaw.{served_tasks}
use Rattle.http_model.proofs.laws.entries_are_tasks.Goals as goal

pub returns : goal.returns
returns g c = λ plans bytes taken worn j entries out end messages rest served memory all.
    served_tasks plans c.requests_are_one.ensures bytes taken worn j entries out end messages rest served memory all
