use Rattle.json_forms.proofs.OrderLemmas.{AreAscending-put}
use Rattle.json_forms.proofs.laws.put_keeps_order.Goals as goal

pub returns : goal.returns
returns c = AreAscending-put
