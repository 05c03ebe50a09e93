use Rattle.std.proofs.Common.{subst, List}
use Rattle.std.specs.Arc.{arc_value}
use Rattle.ordered_pages.specs.Few.{nodes_of}
use Rattle.ordered_pages.specs.Changed.{IsChangedIn}
use Rattle.ordered_pages.proofs.Written.{node_changed, map_ok}
use Rattle.ordered_pages.proofs.nodes.SharedNode.changed.Goals as goal

pub returns : goal.returns
returns g c =
    map_ok _ _ c.halves.result
    (λ nodes e. node_changed g.T.Node.entries g.T.Node.is_sound g.T.Node.replaces c.args.change.now (arc_value c.args.this) c.in_ok-items-2.items (nodes_of nodes)
    (subst (λ (old : List g.row.T.Denot). IsChangedIn g.T.Node.entries g.T.Node.is_sound g.T.Node.replaces c.args.change.now old c.in_ok-items-2.items) c.in_ok-items.ensures c.in_ok-items-2.ensures) e)
    c.halves.ensures
