-- A list of operations: all are done, or none (Atomic Operations extension, "Processing").
use Rattle.std.specs.Prelude.{ℕ, ◌+◌, List, [], ◌∷◌, ◌++◌, Option, Result, Ok, Err, decimal, codes}
use Rattle.std.specs.Option.{option_and_then}
use Rattle.resource_schema.specs.declared.schema.Schema.{Schema}
use Rattle.world_cells.specs.declared.rows.Row.{Row}
use Rattle.task_forms.specs.declared.operations.Operation.{Operation}
use Rattle.task_forms.specs.declared.tasks.ReplyForm.{ReplyForm}
use Rattle.task_forms.specs.declared.tasks.ReplyForm.TheVariants as reply_form
use Rattle.error_objects.specs.declared.refusals.Blame.{Blame}
use Rattle.error_objects.specs.declared.refusals.Blame.TheVariants as blame
use Rattle.error_objects.specs.declared.refusals.Refusal.{Refusal}
use Rattle.world_cells.specs.World.{World, row_at}
use Rattle.store_model.specs.Change.{Lids, Changed, apply}

-- where an operation stands in a list; a plain request is its one operation ("Operation Objects")
abbrev pub operation_pointer : ReplyForm → ℕ → List ℕ
operation_pointer reply_form.Results i = codes "/atomic:operations/" ++ decimal i
operation_pointer reply_form.Created i = []
operation_pointer reply_form.Updated i = []
operation_pointer reply_form.Empty i = []

-- a pointer in an operation, seen from its request
abbrev pub blame_under : List ℕ → Blame → Blame
blame_under at (blame.Pointer p) = blame.Pointer (at ++ p)
blame_under at blame.Nothing = blame.Nothing
blame_under at (blame.Parameter p) = blame.Parameter p
blame_under at (blame.Header p) = blame.Header p

abbrev pub refusal_under : List ℕ → Refusal → Refusal
refusal_under at r = record r { blame = blame_under at r.blame }

-- the world at the end, and for each operation the row that it created or updated, as it then was
pub record Ran : Type 0 where
  pub world : World
  pub rows : List (Option Row)

-- the row of one operation before those of the rest
abbrev pub after_one : Option Row → Result Ran Refusal → Result Ran Refusal
after_one row (Ok ran) = Ok (record ran { rows = row ∷ ran.rows })
after_one row (Err refusal) = Err refusal

-- the rest of a list after one operation, if that is not refused
abbrev pub and_then : List ℕ → Result Changed Refusal → (Changed → Result Ran Refusal) → Result Ran Refusal
and_then at (Ok changed) rest = after_one (option_and_then (row_at changed.world) changed.key) (rest changed)
and_then at (Err refusal) rest = Err (refusal_under at refusal)

-- the operations from number i on
abbrev pub run_from : Schema → ReplyForm → ℕ → World → Lids → List Operation → Result Ran Refusal
run_from schema form i w lids [] = Ok (record { world = w; rows = [] })
run_from schema form i w lids (operation ∷ operations) =
    and_then (operation_pointer form i) (apply schema w operation lids) (λ changed. run_from schema form (i + 1) changed.world changed.lids operations)

-- the operations in order, from no local id on
abbrev pub run : Schema → ReplyForm → World → List Operation → Result Ran Refusal
run schema form w operations = run_from schema form 0 w [] operations
