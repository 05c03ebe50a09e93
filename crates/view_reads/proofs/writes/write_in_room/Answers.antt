use Rattle.std.proofs.Common.{List, sym, ap, subst, set, ◌∙◌}
use Rattle.world_cells.specs.declared.sets.Written.{Written}
use Rattle.view_reads.specs.Places.{Wrote, IsThere, IsBetween}
use Rattle.view_reads.proofs.Places.{wrote_over, wrote_new}
use Rattle.view_reads.proofs.writes.write_in_room.Goals as goal

pub returns-in-Ok-clause-wrote : goal.returns-in-Ok-clause-wrote
returns-in-Ok-clause-wrote c =
    let P : List Written → Type 0 = λ ws. IsThere ws c.args.kept.key c.in-Ok.at in
    let K : Written → Type 0 = λ w. IsThere c.deref.result.now w.key c.in-Ok.at in
    let there = subst P c.deref.ensures.value (subst K c.written.ensures c.in-Ok.ensures) in
    let Q : Written → Type 0 = λ w. Wrote c.args.writes.now.items c.args.kept.key c.args.kept.cell (set c.args.writes.now.items c.in-Ok.at (record { key = w.key; cell = c.args.kept.cell })) in
    let R : Written → Type 0 = λ w. Wrote c.args.writes.now.items c.args.kept.key c.args.kept.cell (set c.args.writes.now.items c.in-Ok.at w) in
    subst R (sym (c.set_cell.ensures ∙ ap (λ (w : Written). record { key = c.index_mut.result.now.key; cell = w.cell }) c.into_written-cell.ensures))
    (subst Q (sym c.index_mut.ensures.value) (wrote_over c.args.writes.now.items c.args.kept.key c.args.kept.cell c.in-Ok.at c.index_mut.result.now there))

pub returns-in-Ok-insert-clause-wrote : goal.returns-in-Ok-insert-clause-wrote
returns-in-Ok-insert-clause-wrote c =
    let P : List Written → Type 0 = λ ws. IsBetween ws c.args.kept.key c.in-Err.at in
    let K : Written → Type 0 = λ w. IsBetween c.deref.result.now w.key c.in-Err.at in
    let between = subst P c.deref.ensures.value (subst K c.written.ensures c.in-Err.ensures) in
    let Q : List Written → Type 0 = λ ws. Wrote c.args.writes.now.items c.args.kept.key c.args.kept.cell ws in
    subst Q (sym c.in-Ok-insert.ensures.items) (wrote_new c.args.writes.now.items c.args.kept.key c.args.kept.cell c.in-Err.at between)
