-- Runs of `pipe` whose end the input decides.
use Rattle.std.specs.Prelude.{ℕ, Bool, List}
use Rattle.http_model.specs.Served.{Served, InputEnd, end_of}
use Rattle.request_model.specs.Plans.{planned}
use Rattle.resource_schema.specs.declared.kinds.Kind.{Kind}
use Rattle.session_engine.specs.Plans.{plans_of}
use Rattle.store_model.specs.StoreMeaning.{meaning_of}
use Rattle.task_forms.specs.declared.tasks.Entry.{Entry}
use Rattle.task_forms.specs.Meaning.{IsLegal}
use Rattle.world_cells.specs.World.{empty_world}

-- over these bytes this was sent for so many messages, by the entries of one legal history from the empty world
pub record Run (schema : List Kind) (bytes : List ℕ) (sent : List ℕ) (answered : ℕ) (end : InputEnd) : Type 0 where
  pub entries : List Entry
  pub legal : IsLegal (meaning_of schema) empty_world entries
  pub taken : List ℕ
  pub worn : Bool
  pub served : Served (plans_of (planned schema)) 0 bytes taken worn answered entries sent (end_of end)
