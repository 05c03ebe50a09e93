use Rattle.std.specs.Prelude.{⊤}
use Rattle.std.specs.Str.{is_utf8, chars}
use Rattle.std.specs.Str.Lossy.{utf8_valid_len, utf8_error_len, utf8_lossy}
use Rattle.std.specs.Fmt.{digits}
use lib.Utf8.{encode}
use Rattle.json_forms.specs.Pointer.{escape}
use Rattle.base64.proofs.OnLiterals.{base64_on_literals}
use Rattle.form_urlencoded.proofs.OnLiterals.{form_urlencoded_on_literals}
use Rattle.serde_json.proofs.OnLiterals.{serde_json_on_literals}

-- what an example unfolds to compute the definitions of this crate on a literal
unfoldable pub requests_on_literals : ⊤
unfolding is_utf8 chars utf8_valid_len utf8_error_len utf8_lossy digits encode escape base64_on_literals form_urlencoded_on_literals serde_json_on_literals
requests_on_literals = tt
