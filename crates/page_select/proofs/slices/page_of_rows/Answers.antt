use Rattle.std.proofs.Common.{◌∙◌}
use Rattle.page_select.proofs.Rearranged.{rearranged}
use Rattle.page_select.proofs.slices.page_of_rows.Goals as goal

pub returns : goal.returns
returns c = λ distinct.
    c.page_in_order.ensures (c.in_ok-sorted.ensures.in_order distinct)
    ∙ rearranged c.pages_are_exact.ensures.rows c.page_is_one.ensures c.args.sort.now c.args.page.now c.args.rows.items c.in_ok-sorted.sorted.items c.in_ok-sorted.ensures.permutation distinct
