use Rattle.std.proofs.Common.{map, ap, ◌∙◌}
use Rattle.std.specs.Arc.{arc_value}
use Rattle.ordered_pages.proofs.Maps.{map_inserted}
use Rattle.ordered_pages.proofs.shared.put_item.Goals as goal

pub returns-clause-put : goal.returns-clause-put
returns-clause-put g c = ap (map arc_value) c.in_ok-insert.ensures.items ∙ map_inserted arc_value c.args.items.now.items c.args.at c.args.item
