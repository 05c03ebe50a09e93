-- What a runner over a recorder says of every world that may stand behind its view, and what it may look at.
use Rattle.std.specs.Prelude.{◌≡◌, ◌≤◌, Bool, List, []}
use Rattle.resource_schema.specs.declared.schema.Schema.{Schema}
use Rattle.world_cells.specs.declared.keys.CellKey.{CellKey}
use Rattle.world_cells.specs.World.{World, cell_at}
use Rattle.world_cells.specs.Reads.{Cells, AgreeOn, Leads}
use Rattle.http_messages.specs.declared.messages.Reply.{Reply}
use Rattle.task_forms.specs.declared.operations.Operation.{Operation}
use Rattle.task_forms.specs.declared.tasks.ReplyForm.{ReplyForm}
use Rattle.store_model.specs.Valid.{IsValid}
use Rattle.store_model.specs.Run.{run}
use Rattle.store_model.specs.Answer.{run_reply, run_world}
use Rattle.store_model.specs.Reach.{reach_operations}
use Rattle.view_reads.specs.Recording.{Recording, Follows}
use Rattle.trial_steps.specs.Steps.{Sees, ReadsWithin}

-- a runner that writes nothing tells what P says of the world now, and looks at no more than its reach
pub record TellsRead {V : Type 0} (schema : Schema) (cells : V → Cells) (reach : World → CellKey → Bool) (P : World → Type 0) (before after : Recording V) : Type 0 where
  pub follows : Follows before after
  pub unwritten : after.writes ≡ before.writes
  pub tells : Sees schema cells before after P
  pub within : ReadsWithin schema cells reach before after

-- What a list of operations told and wrote, begun without a write: in every world that may stand behind the view the reply is the
-- definition's and the writes lead to the definition's world; nothing is written where it was refused.
pub record TellsList {V : Type 0} (schema : Schema) (cells : V → Cells) (operations : List Operation) (form : ReplyForm) (before after : Recording V) (reply : Reply) : Type 0 where
  pub follows : Follows before after
  pub told : (w : World) → IsValid schema w → AgreeOn after.reads (cell_at schema w) (cells before.store)
      → (reply ≡ run_reply schema form operations (run schema form w operations)) × Leads (cell_at schema w) after.writes (cell_at schema (run_world w (run schema form w operations)))
  pub unwritten : 400 ≤ reply.status → after.writes ≡ []
  pub within : ReadsWithin schema cells (λ w k. reach_operations schema w [] operations k) before after
