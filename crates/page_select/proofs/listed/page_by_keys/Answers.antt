use Rattle.std.proofs.Common.{◌≡◌, ◌∙◌, ◌<◌, ◌==◌, sym, ap, subst, List, length, arith}
use Rattle.std.specs.List.{IsDistinct}
use Rattle.world_cells.specs.declared.rows.Row.{Row}
use Rattle.world_cells.specs.declared.spans.Edge.TheVariants as edge
use Rattle.store_model.specs.Pages.{page_of, rows_of}
use Rattle.store_model.specs.Reach.{is_row_of}
use Rattle.page_select.specs.Orders.{same_row}
use Rattle.page_select.specs.Scans.{read_up}
use Rattle.page_select.proofs.Apart.{kind_apart, all_scanned, scan_of_kind}
use Rattle.page_select.proofs.Paged.{map_ok}
use Rattle.page_select.proofs.ReadParts.{within_more}
use Rattle.page_select.proofs.listed.page_by_keys.Goals as goal

pub returns-clause-sees : goal.returns-clause-sees
returns-clause-sees g c = λ schema w now behind leads.
    let rows = c.in_ok-rows.rows in
    let few : length c.in_ok-rows.rows.items < 18446744073709551615 = (let ok = c.in_ok-rows.rows.ok in let small = c.in_ok-rows.rows.small in omega arith) in
    let is : c.in_ok-rows.rows.items ≡ rows_of now c.args.kind = all_scanned schema now c.args.kind 18446744073709551615 c.in_ok-rows.rows.items behind.now_valid few (c.in_ok-rows.ensures.sees schema w now behind leads) in
    map_ok _ (λ s. s ≡ page_of c.args.sort.now c.args.page.now (rows_of now c.args.kind)) c.page_of_rows.result
    (λ s tells. tells (subst (λ (xs : List Row). IsDistinct same_row xs) (sym is) (kind_apart schema now c.args.kind behind.now_valid)) ∙ ap (page_of c.args.sort.now c.args.page.now) is)
    c.page_of_rows.ensures

pub returns-clause-reach : goal.returns-clause-reach
returns-clause-reach g c = λ schema.
    map_ok _ _ c.page_of_rows.result
    (λ s tells. within_more g.V.View.cells schema (λ now. read_up c.args.kind edge.End edge.End 18446744073709551615 c.in_ok-rows.rows.items) (λ now. is_row_of (λ key. key.kind == c.args.kind)) c.args.recorder.now c.scan_up.new.recorder
    (λ now k valid e. scan_of_kind c.args.kind 18446744073709551615 c.in_ok-rows.rows.items k e) (c.in_ok-rows.ensures.reach schema))
    c.page_of_rows.ensures
