-- What a step answers that may stop, against a definition that knows no want of memory.
use Rattle.std.specs.Prelude.{◌≡◌, ⊤, Result, Ok, Err}
use Rattle.ident_rules.specs.declared.step_errors.StepError.{StepError}
use Rattle.ident_rules.specs.declared.step_errors.StepError.TheVariants.{Because, NoMemory}

-- a stop for this reason
abbrev pub IsStop : {R : Type 0} → StepError R → R → Type 0
IsStop (Because r) reason = r ≡ reason
IsStop NoMemory reason = ⊤

-- a stop by what the definition says
abbrev pub IsStopOf : {T R : Type 0} → StepError R → Result T R → Type 0
IsStopOf (Because r) d = d ≡ Err r
IsStopOf NoMemory d = ⊤

-- what the definition says
abbrev pub Gives : {T R : Type 0} → Result T (StepError R) → Result T R → Type 0
Gives (Ok x) d = d ≡ Ok x
Gives (Err stop) d = IsStopOf stop d
