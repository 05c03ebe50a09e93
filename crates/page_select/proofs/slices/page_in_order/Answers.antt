use Rattle.std.proofs.Common.{◌≡◌, ◌+◌, ◌-◌, ◌≤◌, ◌∙◌, List, length, true, false, ap, subst, arith}
use Rattle.std.specs.Prelude.{◌&&◌, nat_lt, min, if◌then◌else◌}
use Rattle.std.specs.List.Sorted.{IsPartitionPoint}
use Rattle.world_cells.specs.declared.rows.Row.{Row}
use Rattle.store_model.specs.Pages.{ends_at_cursor, is_ahead_of_cursor, is_behind_cursor, is_range, place_of}
use Rattle.page_select.specs.Orders.{AreInOrder}
use Rattle.page_select.proofs.Sliced.{sliced}
use Rattle.page_select.proofs.slices.page_in_order.Goals as goal

pub returns : goal.returns
returns c = λ ordered.
    let sort = c.args.sort.now in
    let page = c.args.page.now in
    let start_len : length c.as_slice.result.now ≡ length c.args.rows.items = ap length c.as_slice.ensures.value in
    let end_len : length c.as_slice-2.result.now ≡ length c.args.rows.items = ap length c.as_slice-2.ensures.value in
    let start_in : c.not_behind-start.result ≤ length c.args.rows.items = (let within = c.not_behind-start.ensures.within in omega arith) in
    let end_in : c.all_ahead-end.result ≤ length c.args.rows.items = (let within = c.all_ahead-end.ensures.within in omega arith) in
    let asked : c.saturating_sub-asked.result ≡ c.all_ahead-end.result - c.not_behind-start.result = (let sub = c.saturating_sub-asked.ensures in omega arith) in
    let counted : c.min-count.result ≡ min (c.all_ahead-end.result - c.not_behind-start.result) c.args.page.now.size = (let least = c.min-count.ensures in omega (arith, asked)) in
    let whole : c.len-whole.result ≡ length c.args.rows.items = (let ok = c.args.rows.ok in let len = c.len-whole.ensures in omega arith) in
    sliced c.args.sort.now c.args.rows.items ordered c.args.page.now c.not_behind-start.result c.all_ahead-end.result c.min-count.result c.first_shown-low.result _
    (subst (λ (xs : List Row). AreInOrder c.args.sort.now xs → IsPartitionPoint (λ r. is_behind_cursor c.args.sort.now c.args.page.now.after (place_of c.args.sort.now r) ≡ false) (λ r. is_behind_cursor c.args.sort.now c.args.page.now.after (place_of c.args.sort.now r) ≡ true) xs c.not_behind-start.result)
    c.as_slice.ensures.value c.not_behind-start.ensures.cut ordered)
    (subst (λ (xs : List Row). AreInOrder c.args.sort.now xs → IsPartitionPoint (λ r. is_ahead_of_cursor c.args.sort.now c.args.page.now.before (place_of c.args.sort.now r) ≡ true) (λ r. is_ahead_of_cursor c.args.sort.now c.args.page.now.before (place_of c.args.sort.now r) ≡ false) xs c.all_ahead-end.result)
    c.as_slice-2.ensures.value c.all_ahead-end.ensures.cut ordered)
    start_in end_in counted
    (c.first_shown-low.ensures ∙ ap (λ n. if ends_at_cursor c.args.page.now then c.not_behind-start.result + (n - c.min-count.result) else c.not_behind-start.result) asked)
    (c.from_vec.ensures ∙ c.cut-shown.ensures) c.has_before.ensures
    (c.has_after.ensures ∙ ap (λ n. nat_lt 0 c.min-count.result && nat_lt (c.first_shown-low.result + c.min-count.result) n) whole)
    (c.is_truncated.ensures ∙ ap (λ n. is_range c.args.page.now && nat_lt c.args.page.now.size n) asked)
