-- The nodes that one node becomes.
use Rattle.std.specs.Prelude.{List, [], ◌∷◌}
use Rattle.std.specs.Arc.{arc_value}
use Rattle.ordered_pages.specs.declared.few.Few.{Few}
use Rattle.ordered_pages.specs.declared.few.Few.TheVariants as few

-- in order
abbrev pub nodes_of : {T : Type 0} → Few T → List T
nodes_of few.Gone = []
nodes_of (few.One x) = arc_value x ∷ []
nodes_of (few.Two x y) = arc_value x ∷ arc_value y ∷ []
