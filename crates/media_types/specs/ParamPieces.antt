-- Parameters of media types, as pieces of a text (RFC 9110, section 5.6.6).
use Rattle.std.specs.Prelude.{ℕ, ◌||◌, ◌==◌, Bool, true, false, not, List, Option, filter, map}
use Rattle.request_model.specs.declared.forms.Param.{Param}
use Rattle.request_model.specs.declared.forms.Quoting.{Quoting}
use Rattle.request_model.specs.declared.forms.Quoting.TheVariants.{Outside, Within, Escaped}
use Rattle.request_model.specs.Words.{is_any, all_some}
use Rattle.request_model.specs.MediaTypes.{param_of, trim_blanks}

-- the parameters that pieces are, where each is empty or one
abbrev pub params_of : List (List ℕ) → Option (List Param)
params_of pieces = all_some (map param_of (filter is_any (map trim_blanks pieces)))

-- a byte of a quoted string that is content, and no quoting
abbrev pub is_content : Quoting → ℕ → Bool
is_content Outside b = false
is_content Within b = not (b == 34 || b == 92)
is_content Escaped b = true
