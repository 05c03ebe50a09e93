use Rattle.json_forms.proofs.InOrder.{json_of-ordered, json_of-nests}
use Rattle.json_forms.proofs.laws.read_is_in_order.Goals as goal

pub returns : goal.returns
returns c = record { order = json_of-ordered; nests = json_of-nests }
