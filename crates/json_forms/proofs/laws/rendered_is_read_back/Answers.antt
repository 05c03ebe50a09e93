use Rattle.json_forms.proofs.Utf8Lemmas.{json_of-compact_text}
use Rattle.json_forms.proofs.laws.rendered_is_read_back.Goals as goal

pub returns : goal.returns
returns c = json_of-compact_text
