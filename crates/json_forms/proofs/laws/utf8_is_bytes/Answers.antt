use Rattle.json_forms.proofs.Utf8Lemmas.{IsUtf8-bytes}
use Rattle.json_forms.proofs.laws.utf8_is_bytes.Goals as goal

pub returns : goal.returns
returns c = IsUtf8-bytes
