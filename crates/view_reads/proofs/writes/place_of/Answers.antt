use Rattle.std.proofs.Common.{refl, sym, ap, ◌∙◌, arith}
use Rattle.world_cells.specs.declared.sets.Written.{Written}
use Rattle.world_cells.specs.CellOrder.{cell_key_cmp}
use Rattle.view_reads.proofs.Places.{there_tied, from_past, met_in_middle}
use Rattle.view_reads.proofs.writes.place_of.Goals as goal

pub returns-in-Equal : goal.returns-in-Equal
returns-in-Equal c =
    there_tied _ _ _ c.written_at.result.now (omega arith) c.requires
    (ap (λ (w : Written). cell_key_cmp c.args.key.now w.key) (sym c.written_at.ensures) ∙ sym c.in-Equal.ensures)

pub loop-low-preserved : goal.loop-low-preserved
loop-low-preserved c = record {
  ordered = omega arith;
  within = c.loop-low.invariant.within;
  behind = from_past c.args.writes.now c.args.key.now _ _ c.written_at.result.now (omega arith) refl c.requires
      (ap (λ (w : Written). cell_key_cmp c.args.key.now w.key) (sym c.written_at.ensures) ∙ sym c.in-Greater.ensures);
  before = c.loop-low.invariant.before;
}

pub returns : goal.returns
returns c = met_in_middle c.args.writes.now c.args.key.now c.loop-low.low c.loop-low.high (omega arith) c.loop-low.invariant.within c.requires c.loop-low.invariant.behind c.loop-low.invariant.before
