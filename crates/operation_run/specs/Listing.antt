-- What a list of operations says of every world that may stand behind the view.
use Rattle.std.specs.Prelude.{◌≡◌, ⊤, ℕ, IsTrue, IsFalse, true, List, [], ◌++◌, length, Result, Ok, Err}
use Rattle.std.specs.Option.{option_and_then}
use Rattle.serde_json.specs.Data.{Data}
use Rattle.serde_json.specs.Written.{comma_if, compact_text}
use Rattle.ident_rules.specs.declared.step_errors.StepError.{StepError}
use Rattle.ident_rules.specs.declared.step_errors.StepError.TheVariants.{Because, NoMemory}
use Rattle.resource_schema.specs.declared.schema.Schema.{Schema}
use Rattle.world_cells.specs.declared.keys.CellKey.{CellKey}
use Rattle.world_cells.specs.declared.sets.Written.{Written}
use Rattle.world_cells.specs.Reads.{Cells, covers, AgreeOn, Leads}
use Rattle.world_cells.specs.World.{World, cell_at, row_at}
use Rattle.error_objects.specs.declared.refusals.Refusal.{Refusal}
use Rattle.task_forms.specs.declared.operations.Operation.{Operation}
use Rattle.task_forms.specs.declared.tasks.ReplyForm.TheVariants as reply_form
use Rattle.store_model.specs.Answer.{is_create, result_data}
use Rattle.store_model.specs.Change.{Changed, apply}
use Rattle.store_model.specs.Reach.{reach_operations}
use Rattle.store_model.specs.Run.{operation_pointer, refusal_under, run}
use Rattle.store_model.specs.Valid.{IsValid}
use Rattle.view_reads.specs.Recording.{Recording, Follows}
use Rattle.trial_steps.specs.Steps.{StandsBehind}
use Rattle.json_texts.specs.Drafts.{Adds}
use Rattle.operation_run.specs.Texts.{IsDraftOf}
use Rattle.operation_run.specs.Running.{IsReached}
use Rattle.operation_run.specs.declared.lists.Listing.{Listing}

-- ---- one operation

-- An operation that is done binds its local ids, its writes lead to the world after it, and its result is appended.
pub record IsDone (schema : Schema) (operation : Operation) (changed : Changed) (old new : Listing) (w : World) (writes : List Written) : Type 0 where
  pub lids : new.lids ≡ changed.lids
  pub leads : Leads (cell_at schema w) writes (cell_at schema changed.world)
  pub result : Adds old.results new.results (comma_if old.later ++ compact_text (result_data schema (is_create operation) (option_and_then (row_at changed.world) changed.key)))
  pub later : new.later ≡ true

-- the outcome of the operation with number i is the definition's
abbrev pub IsNext : Schema → ℕ → Operation → Listing → Listing → World → List Written → Result ⊤ (StepError Refusal) → Result Changed Refusal → Type 0
IsNext schema i operation old new w writes (Err NoMemory) outcome = ⊤
IsNext schema i operation old new w writes (Ok x) (Ok changed) = IsDone schema operation changed old new w writes
IsNext schema i operation old new w writes (Ok x) (Err e) = ⊥
IsNext schema i operation old new w writes (Err (Because r)) (Ok changed) = ⊥
IsNext schema i operation old new w writes (Err (Because r)) (Err e) = r ≡ refusal_under (operation_pointer reply_form.Results i) e

-- in every world that may stand behind the view, as the earlier writes changed it
abbrev pub TellsNext : {V : Type 0} → Schema → (V → Cells) → ℕ → Operation → Listing → Listing → Recording V → Recording V → Result ⊤ (StepError Refusal) → Type 0
TellsNext schema cells i operation old new before after result =
    (w now : World) → StandsBehind schema (cells before.store) after.reads w now → Leads (cell_at schema w) before.writes (cell_at schema now)
    → IsNext schema i operation old new w after.writes result (apply schema now operation old.lids)

-- ---- the list

-- From a world the operations before number i lead to another, to which the writes lead; the draft has their results.
pub record HasCome (schema : Schema) (operations : List Operation) (i : ℕ) (w : World) (writes : List Written) (list : Listing) : Type 0 where
  pub now : World
  pub done : List Data
  pub reached : IsReached schema operations i w now list.lids done
  pub leads : Leads (cell_at schema w) writes (cell_at schema now)
  pub draft : IsDraftOf list.results list.later done

-- what was read lies in the reach of the list, in each world with the view's cells
abbrev pub ReadsInList : {V : Type 0} → Schema → (V → Cells) → List Operation → Recording V → Recording V → Type 0
ReadsInList schema cells operations before after =
    (w : World) → IsValid schema w → ((k : CellKey) → cell_at schema w k ≡ cells before.store k)
    → (k : CellKey) → IsTrue (covers after.reads k) → IsFalse (covers before.reads k) → IsTrue (reach_operations schema w [] operations k)

-- the operations before number i are done, whatever world stands behind the view
pub record IsRunTo {V : Type 0} (schema : Schema) (cells : V → Cells) (operations : List Operation) (i : ℕ) (before after : Recording V) (list : Listing) : Type 0 where
  pub follows : Follows before after
  pub tells : (w : World) → IsValid schema w → AgreeOn after.reads (cell_at schema w) (cells before.store) → HasCome schema operations i w after.writes list
  pub reach : ReadsInList schema cells operations before after

-- one of them is the first that is refused
pub record IsStopped {V : Type 0} (schema : Schema) (cells : V → Cells) (operations : List Operation) (before after : Recording V) (r : Refusal) : Type 0 where
  pub follows : Follows before after
  pub tells : (w : World) → IsValid schema w → AgreeOn after.reads (cell_at schema w) (cells before.store) → run schema reply_form.Results w operations ≡ Err r
  pub reach : ReadsInList schema cells operations before after

-- how the list ends
abbrev pub EndsList : {V : Type 0} → Schema → (V → Cells) → List Operation → Recording V → Recording V → Result Listing (StepError Refusal) → Type 0
EndsList schema cells operations before after (Ok list) = IsRunTo schema cells operations (length operations) before after list
EndsList schema cells operations before after (Err (Because r)) = IsStopped schema cells operations before after r
EndsList schema cells operations before after (Err NoMemory) = ⊤
