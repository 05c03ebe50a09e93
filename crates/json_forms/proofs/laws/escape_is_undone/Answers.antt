use Rattle.json_forms.proofs.PointerLemmas.{unescape-escape}
use Rattle.json_forms.proofs.laws.escape_is_undone.Goals as goal

pub returns : goal.returns
returns c = unescape-escape
