-- A planner's plans as those that a session is served by.
use Rattle.http_messages.specs.declared.messages.Message.{Message}
use Rattle.task_forms.specs.declared.tasks.Task.{Task}
use Rattle.task_forms.specs.declared.tasks.Entry.{Entry}
use Rattle.task_forms.specs.declared.tasks.Plan.{Plan}
use Rattle.task_forms.specs.declared.tasks.Plan.TheVariants.{Fixed, Run}
use Rattle.http_model.specs.Exchanges.{Planned, planned_reply, planned_task, Plans}

abbrev pub TaskPlans : Type 0
TaskPlans = Plans Task Entry

-- what is planned of a message
abbrev pub as_planned : Plan → Planned Task
as_planned (Fixed reply) = planned_reply reply
as_planned (Run task) = planned_task task

-- a planner's plans, and the task and the reply of an entry
abbrev pub plans_of : (Message → Plan) → TaskPlans
plans_of planned = record { plan = λ m. as_planned (planned m); task_of = λ e. e.task; reply_of = λ e. e.reply }
