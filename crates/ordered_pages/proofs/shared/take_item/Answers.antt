use Rattle.std.proofs.Common.{map, ap, ◌∙◌}
use Rattle.std.specs.Arc.{arc_value}
use Rattle.ordered_pages.proofs.Maps.{map_removed}
use Rattle.ordered_pages.proofs.shared.take_item.Goals as goal

pub returns-clause-rest : goal.returns-clause-rest
returns-clause-rest g c = ap (map arc_value) c.remove.ensures.items ∙ map_removed arc_value c.args.items.now.items c.args.at
