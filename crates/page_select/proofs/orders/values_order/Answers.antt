use Rattle.std.proofs.Common.{get_or, Less, Equal, Greater, false, refl, sym}
use Rattle.task_forms.specs.declared.queries.SortKey.{SortKey}
use Rattle.page_select.specs.Orders.{place_in}
use Rattle.page_select.proofs.KeyOrders.{key_told}
use Rattle.page_select.proofs.orders.values_order.Goals as goal

abbrev no_key : SortKey
no_key = record { attribute = 0; descending = false }

pub returns-in-Less : goal.returns-in-Less
returns-in-Less c =
    sym (key_told c.args.sort.now (place_in c.args.sort.now c.args.one).values (place_in c.args.sort.now c.args.other).values c.loop-index.index no_key (get_or c.args.sort.now c.loop-index.index no_key)
    c.value_at-left.result.now c.value_at-right.result.now Less c.loop-index-test.true c.loop-index.invariant.so_far refl c.value_at-left.ensures c.value_at-right.ensures c.in-Less.ensures)

pub returns-in-Greater : goal.returns-in-Greater
returns-in-Greater c =
    sym (key_told c.args.sort.now (place_in c.args.sort.now c.args.one).values (place_in c.args.sort.now c.args.other).values c.loop-index.index no_key (get_or c.args.sort.now c.loop-index.index no_key)
    c.value_at-left.result.now c.value_at-right.result.now Greater c.loop-index-test.true c.loop-index.invariant.so_far refl c.value_at-left.ensures c.value_at-right.ensures c.in-Greater.ensures)

pub loop-index-preserved : goal.loop-index-preserved
loop-index-preserved c = record {
  null = c.loop-index.invariant.null;
  so_far = key_told c.args.sort.now (place_in c.args.sort.now c.args.one).values (place_in c.args.sort.now c.args.other).values c.loop-index.index no_key (get_or c.args.sort.now c.loop-index.index no_key)
      c.value_at-left.result.now c.value_at-right.result.now Equal c.loop-index-test.true c.loop-index.invariant.so_far refl c.value_at-left.ensures c.value_at-right.ensures c.in-Equal.ensures;
}
