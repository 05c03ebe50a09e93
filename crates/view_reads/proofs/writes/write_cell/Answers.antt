use Rattle.std.proofs.Common.{List, sym, ap, subst, set, ◌∙◌}
use Rattle.std.specs.List.{insert}
use Rattle.world_cells.specs.declared.sets.Written.{Written}
use Rattle.view_reads.specs.Places.{Wrote, IsThere, IsBetween}
use Rattle.view_reads.proofs.Places.{wrote_over, wrote_new}
use Rattle.view_reads.proofs.writes.write_cell.Goals as goal

pub returns-in-Ok-clause-ok : goal.returns-in-Ok-clause-ok
returns-in-Ok-clause-ok c =
    let P : List Written → Type 0 = λ ws. IsThere ws c.args.key c.in-Ok.at in
    let there = subst P c.deref.ensures.value c.in-Ok.ensures in
    let Q : Written → Type 0 = λ w. Wrote c.args.writes.now.items c.args.key c.args.cell (set c.args.writes.now.items c.in-Ok.at (record { key = w.key; cell = c.args.cell })) in
    let R : Written → Type 0 = λ w. Wrote c.args.writes.now.items c.args.key c.args.cell (set c.args.writes.now.items c.in-Ok.at w) in
    subst R (sym c.set_cell.ensures) (subst Q (sym c.index_mut.ensures.value) (wrote_over c.args.writes.now.items c.args.key c.args.cell c.in-Ok.at c.index_mut.result.now there))

pub returns-in_ok-insert-in-Err-clause-ok : goal.returns-in_ok-insert-in-Err-clause-ok
returns-in_ok-insert-in-Err-clause-ok c =
    let P : List Written → Type 0 = λ ws. IsBetween ws c.args.key c.in-Err.at in
    let between = subst P c.deref.ensures.value c.in-Err.ensures in
    let Q : List Written → Type 0 = λ ws. Wrote c.args.writes.now.items c.args.key c.args.cell ws in
    subst Q (sym (c.in_ok-insert-in-Err.ensures.items ∙ ap (λ (w : Written). insert c.args.writes.now.items c.in-Err.at w) c.in_ok-kept-in-Err.ensures))
    (wrote_new c.args.writes.now.items c.args.key c.args.cell c.in-Err.at between)
