-- What a step tells under the schema and at the pointer that it is given.
use Rattle.std.specs.Prelude.{Option, Result}
use Rattle.world_cells.specs.World.{World}
use Rattle.world_cells.specs.Reads.{Cells}
use Rattle.error_objects.specs.declared.refusals.Refusal.{Refusal}
use Rattle.ident_rules.specs.declared.step_errors.StepError.{StepError}
use Rattle.view_reads.specs.Recording.{Recording}
use Rattle.trial_steps.specs.Steps.{TellsIn}
use Rattle.row_change.specs.declared.steps.Step.{Step}

abbrev pub TellsAt : {V T : Type 0} → Step → (V → Cells) → Recording V → Recording V → (World → Option Refusal) → (World → T → Type 0) → Result T (StepError Refusal) → Type 0
TellsAt step cells before after expected P result = TellsIn step.schema.now step.pointer.now cells before after expected P result
