use Rattle.std.proofs.Common.{◌≡◌}
use Rattle.resource_schema.specs.declared.values.AttrValue.TheVariants as value
use Rattle.store_model.specs.Pages.{values_cmp}
use Rattle.page_select.specs.Orders.{place_in}
use Rattle.page_select.proofs.KeyOrders.{from_key}
use Rattle.page_select.proofs.orders.values_order.Given as goal

abbrev pub invariant-loop-index : goal.invariant-loop-index
invariant-loop-index l = record {
  null : l.null ≡ value.Null;
  so_far : values_cmp l.sort (place_in l.sort l.one).values (place_in l.sort l.other).values ≡ from_key l.sort (place_in l.sort l.one).values (place_in l.sort l.other).values l.index;
}
