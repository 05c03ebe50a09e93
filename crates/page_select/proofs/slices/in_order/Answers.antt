use Rattle.std.proofs.Common.{rules}
use Rattle.std.proofs.lemmas.Fn.{always_returns_same}
use Rattle.std.proofs.lemmas.List.Sorted.{ranks_by}
use Rattle.std.proofs.lemmas.Map.Keys.{IsDistinct-IsPermutation}
use Rattle.store_model.specs.Pages.{place_cmp_total, place_of}
use Rattle.page_select.specs.Orders.{same_row}
use Rattle.page_select.proofs.InOrder.{before, in_order_from, same_flips}
use Rattle.page_select.proofs.slices.in_order.Goals as goal

pub returns-clause-in_order : goal.returns-clause-in_order
returns-clause-in_order c = λ distinct.
    in_order_from c.args.sort.now c.sort_by.new.self.items
    (IsDistinct-IsPermutation same_row same_flips c.args.rows.items c.sort_by.new.self.items c.in_ok-sort_by.ensures.permutation distinct)
    (c.in_ok-sort_by.ensures.sorted (before c.args.sort.now) (ranks_by (place_cmp_total c.args.sort.now) (place_of c.args.sort.now)) (always_returns_same _ _ _ (λ a r q k. search rules)))
