-- Stops that are passed on.
use Rattle.std.proofs.Common.{◌≡◌, Result, Ok, Err, sym, subst}
use Rattle.std.specs.Result.{IsErr, IsErrAnd}
use Rattle.ident_rules.specs.declared.step_errors.StepError.{StepError}
use Rattle.ident_rules.specs.declared.step_errors.StepError.TheVariants.{Because, NoMemory}
use Rattle.ident_rules.specs.StepErrors.{Gives, IsStopOf}

-- what stops the one definition stops the other
pub stop_on : {T S R : Type 0} (stop : StepError R) (d : Result T R) (e : Result S R) → ((r : R) → d ≡ Err r → e ≡ Err r) → IsStopOf stop d → IsStopOf stop e
stop_on (Because r) d e f h = f r h
stop_on NoMemory d e f h = tt

-- an error that is passed on says what was told of it
pub passed : {T R : Type 0} (stop : StepError R) (result : Result T (StepError R)) (d : Result T R) → IsErr result → IsErrAnd result (λ e. e ≡ stop) → IsStopOf stop d → Gives result d
passed stop (Ok x) d is told h = cc is
passed {T} {R} stop (Err e) d is told h = subst (λ (s : StepError R). IsStopOf s d) (sym told) h
