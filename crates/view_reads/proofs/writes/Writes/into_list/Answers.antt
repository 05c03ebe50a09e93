use Rattle.std.proofs.Common.{sym, subst, map, List, ◌∙◌}
use Rattle.world_cells.specs.declared.sets.Written.{Written}
use Rattle.world_cells.specs.Reads.{AreRisingKeys}
use Rattle.view_reads.proofs.Sorted.{rising}
use Rattle.view_reads.proofs.writes.Writes.into_list.Goals as goal

pub returns-clause-rising : goal.returns-clause-rising
returns-clause-rising c = subst (λ (ws : List Written). AreRisingKeys (map (λ w. w.key) ws)) (sym (c.from_vec.ensures ∙ c.unboxed.ensures)) (rising _ c.self.invariant.0)
