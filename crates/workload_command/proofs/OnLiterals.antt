use Rattle.std.specs.Prelude.{⊤}
use Rattle.std.specs.Str.{is_utf8, chars}
use Rattle.std.specs.Str.Lossy.{utf8_valid_len, utf8_error_len, utf8_lossy}
use Rattle.std.specs.Fmt.{digits}
use lib.Utf8.{encode}
use Rattle.json_forms.specs.Pointer.{escape}
use Rattle.serde_json.proofs.OnLiterals.{serde_json_on_literals}

-- what an example unfolds to read a schema's text
unfoldable pub schemas_on_literals : ⊤
unfolding is_utf8 chars utf8_valid_len utf8_error_len utf8_lossy digits encode escape serde_json_on_literals
schemas_on_literals = tt
