-- How far a list of operations has come.
use Rattle.std.specs.Prelude.{◌≡◌, ℕ, IsTrue, List, [], ◌++◌, map, drop, Option, Result, Ok, Err}
use Rattle.std.specs.List.{zip}
use Rattle.serde_json.specs.Data.{Data}
use Rattle.resource_schema.specs.declared.schema.Schema.{Schema}
use Rattle.world_cells.specs.declared.keys.CellKey.{CellKey}
use Rattle.world_cells.specs.declared.rows.Row.{Row}
use Rattle.world_cells.specs.World.{World}
use Rattle.error_objects.specs.declared.refusals.Refusal.{Refusal}
use Rattle.task_forms.specs.declared.operations.Operation.{Operation}
use Rattle.task_forms.specs.declared.tasks.ReplyForm.TheVariants as reply_form
use Rattle.store_model.specs.Answer.{is_create, result_data}
use Rattle.store_model.specs.Change.{Lids}
use Rattle.store_model.specs.Reach.{reach_operations}
use Rattle.store_model.specs.Run.{Ran, run, run_from}
use Rattle.store_model.specs.Valid.{IsValid}

-- the world at the end, and the result of each operation
pub record Listed : Type 0 where
  pub world : World
  pub results : List Data

abbrev pub results_of : Schema → List Operation → List (Option Row) → List Data
results_of schema operations rows = map (λ o. result_data schema (is_create o.0) o.1) (zip operations rows)

abbrev pub listed : Schema → List Operation → Result Ran Refusal → Result Listed Refusal
listed schema operations (Ok ran) = Ok (record { world = ran.world; results = results_of schema operations ran.rows })
listed schema operations (Err refusal) = Err refusal

-- the results of the rest behind those so far
abbrev pub behind : List Data → Result Listed Refusal → Result Listed Refusal
behind done (Ok list) = Ok (record list { results = done ++ list.results })
behind done (Err refusal) = Err refusal

-- The operations before number i lead from a world to another, with these local ids and results: what comes of the rest there
-- comes of the list, and what the rest may look at the list may look at.
pub record IsReached (schema : Schema) (operations : List Operation) (i : ℕ) (w now : World) (lids : Lids) (done : List Data) : Type 0 where
  pub valid : IsValid schema now
  pub runs : listed schema operations (run schema reply_form.Results w operations) ≡ behind done (listed schema (drop i operations) (run_from schema reply_form.Results i now lids (drop i operations)))
  pub reach : (k : CellKey) → IsTrue (reach_operations schema now lids (drop i operations) k) → IsTrue (reach_operations schema w [] operations k)
