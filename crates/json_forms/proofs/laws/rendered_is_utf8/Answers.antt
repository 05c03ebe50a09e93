use Rattle.json_forms.proofs.Utf8Lemmas.{IsUtf8-compact_text}
use Rattle.json_forms.proofs.laws.rendered_is_utf8.Goals as goal

pub returns : goal.returns
returns c = IsUtf8-compact_text
