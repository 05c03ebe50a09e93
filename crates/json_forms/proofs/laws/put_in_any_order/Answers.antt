use Rattle.json_forms.proofs.OrderLemmas.{put_in_any_order, put_twice}
use Rattle.json_forms.proofs.laws.put_in_any_order.Goals as goal

pub returns : goal.returns
returns c = record { apart = put_in_any_order; last = put_twice }
