use Rattle.std.proofs.Common.{sym, ◌∙◌}
use Rattle.media_types.proofs.Cuts.{cut-start, cut-here, cut-later, cut-never}
use Rattle.media_types.proofs.pieces.cut_at.Goals as goal

pub loop-place-init : goal.loop-place-init
loop-place-init c = cut-start c.args.first c.args.separator c.args.text.now

pub loop-place-preserved : goal.loop-place-preserved
loop-place-preserved c =
    rw c.after_byte-at.ensures
    (cut-later c.args.first c.args.separator c.args.text.now c.loop-place.at c.loop-place.place c.loop-place-test.true c.loop-place.invariant (sym c.is_cut.ensures ∙ c.if-is_cut.false))

pub returns-then-is_cut-clause-pieces : goal.returns-then-is_cut-clause-pieces
returns-then-is_cut-clause-pieces c =
    cut-here c.args.first c.args.separator c.args.text.now c.loop-place.at c.loop-place.place c.loop-place-test.true c.loop-place.invariant (sym c.is_cut.ensures ∙ c.if-is_cut.true)

pub returns-clause-pieces : goal.returns-clause-pieces
returns-clause-pieces c =
    cut-never c.args.first c.args.separator c.args.text.now c.loop-place.at c.loop-place.place c.loop-place-test.false c.loop-place.invariant
