use Rattle.request_model.proofs.PlanFits.{planned-fits}
use Rattle.request_model.proofs.laws.planned_task_is_fit.Goals as goal

pub returns : goal.returns
returns c = planned-fits c.read_is_in_order.ensures.order
