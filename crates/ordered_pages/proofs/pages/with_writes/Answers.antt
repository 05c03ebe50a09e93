use Rattle.std.proofs.Common.{◌≡◌, ◌+◌, ◌++◌, ◌∷◌, [], sym, ap, subst, ◌∙◌, None, take, map, true, arith}
use Rattle.std.proofs.lemmas.List.{take_more}
use Rattle.std.specs.FinMap.Entries.{find}
use Rattle.std.specs.Ordering.{is_lt}
use Rattle.world_cells.specs.Lists.{IsIn}
use Rattle.world_cells.specs.declared.keys.CellKey.{CellKey}
use Rattle.world_cells.specs.declared.sets.Written.{Written}
use Rattle.world_cells.specs.CellOrder.{cell_key_cmp}
use Rattle.world_cells.specs.Reads.{entries_of}
use Rattle.ordered_pages.specs.Tree.{leaves_of}
use Rattle.ordered_pages.proofs.Prepared.{step, fresh, above_taken}
use Rattle.ordered_pages.proofs.pages.with_writes.Goals as goal

pub loop-write-preserved : goal.loop-write-preserved
loop-write-preserved c = record {
  prepared =
      step (leaves_of c.args.root) (take c.loop-write.write-index c.args.writes.now) (take (c.loop-write.write-index + 1) c.args.writes.now) c.write-item.result
      c.loop-write.new c.in_ok-new.new c.loop-write.keys.items c.written.new.keys.items
      (subst (λ (w : Written). find cell_key_cmp w.key (entries_of (take c.loop-write.write-index c.args.writes.now)) ≡ None) (sym c.write-item.is)
      (fresh c.args.writes.now c.loop-write.write-index c.write-item.result c.requires.rising (omega arith)))
      (subst (λ (w : Written). (k : CellKey) → IsIn (map (λ (v : Written). v.key) (take c.loop-write.write-index c.args.writes.now)) k → is_lt (cell_key_cmp k w.key) ≡ true) (sym c.write-item.is)
      (above_taken c.args.writes.now c.loop-write.write-index c.write-item.result c.requires.rising (omega arith)))
      (take_more c.args.writes.now c.loop-write.write-index c.write-item.result (omega arith) ∙ ap (λ (w : Written). take c.loop-write.write-index c.args.writes.now ++ w ∷ []) (sym c.write-item.is))
      c.loop-write.invariant.prepared c.in_ok-new.ensures.ok;
  steps = (let now = c.written.ensures.work in let steps = c.loop-write.invariant.steps in omega arith);
}
