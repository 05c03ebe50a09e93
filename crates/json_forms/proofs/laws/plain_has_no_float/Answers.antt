use Rattle.json_forms.proofs.ReadBack.{has_float-plain}
use Rattle.json_forms.proofs.laws.plain_has_no_float.Goals as goal

pub returns : goal.returns
returns c = has_float-plain
