-- The reply to the one operation of a plain request.
use Rattle.std.specs.Prelude.{Option}
use Rattle.http_messages.specs.declared.messages.Reply.{Reply}
use Rattle.resource_schema.specs.declared.schema.Schema.{Schema}
use Rattle.world_cells.specs.declared.rows.Row.{Row}
use Rattle.task_forms.specs.declared.tasks.ReplyForm.{ReplyForm}
use Rattle.task_forms.specs.declared.tasks.ReplyForm.TheVariants as reply_form
use Rattle.store_model.specs.Answer.{created_reply, empty_reply, updated_reply}

-- with its row where it is a creation or an update
abbrev pub one_reply : Schema → ReplyForm → Option Row → Reply
one_reply schema reply_form.Created row = created_reply schema row
one_reply schema reply_form.Updated row = updated_reply schema row
one_reply schema reply_form.Empty row = empty_reply
one_reply schema reply_form.Results row = empty_reply
