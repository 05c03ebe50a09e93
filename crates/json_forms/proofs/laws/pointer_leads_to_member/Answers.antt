use Rattle.json_forms.proofs.PointerLemmas.{pointer-member}
use Rattle.json_forms.proofs.laws.pointer_leads_to_member.Goals as goal

pub returns : goal.returns
returns c = pointer-member
