use Rattle.std.proofs.Common.{sym, ◌∙◌}
use Rattle.row_change.proofs.Theres.{there_row, there_own}
use Rattle.row_change.proofs.linkages.may_link.Goals as goal

pub returns-in-AtRow-clause-sees : goal.returns-in-AtRow-clause-sees
returns-in-AtRow-clause-sees g c = λ schema w now behind leads.
    there_row c.args.to now c.args.key.now c.has_row.result c.in-AtRow.is (c.has_row.ensures.sees schema w now behind leads)

pub returns-else-eq-clause-sees : goal.returns-else-eq-clause-sees
returns-else-eq-clause-sees g c = λ schema w now behind leads.
    there_own c.args.to c.in-AtRowOr.own now c.args.key.now c.has_row-else-eq.result c.in-AtRowOr.is (sym c.eq.ensures ∙ c.if-eq.false) (c.has_row-else-eq.ensures.sees schema w now behind leads)

pub returns-in-AtRow-clause-unread : goal.returns-in-AtRow-clause-unread
returns-in-AtRow-clause-unread g c = λ e. cc (sym c.in-AtRow.is ∙ e)

pub returns-else-eq-clause-unread : goal.returns-else-eq-clause-unread
returns-else-eq-clause-unread g c = λ e. cc (sym c.in-AtRowOr.is ∙ e)
