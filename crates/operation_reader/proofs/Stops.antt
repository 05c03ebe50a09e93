-- A stop of a first step is one of both.
use Rattle.std.proofs.Common.{Result, ap}
use Rattle.ident_rules.specs.declared.step_errors.StepError.{StepError}
use Rattle.ident_rules.specs.declared.step_errors.StepError.TheVariants.{Because, NoMemory}
use Rattle.ident_rules.specs.StepErrors.{IsStopOf}
use Rattle.request_model.specs.Results.{◌>>◌}

pub stop_first : {A B R : Type 0} (stop : StepError R) (d : Result A R) (s : Result B R) → IsStopOf stop d → IsStopOf stop (◌>>◌ d s)
stop_first (Because r) d s is = ap (λ x. ◌>>◌ x s) is
stop_first NoMemory d s is = tt
