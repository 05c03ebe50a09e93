use Rattle.std.proofs.Common.{◌≡◌, ◌≤◌, ◌∙◌, true, length, sym, ap, arith}
use Rattle.std.specs.Prelude.{◌&&◌, nat_le, is_some}
use Rattle.std.proofs.lemmas.Bool.Decides.{nat_tests}
use Rattle.world_cells.specs.declared.spans.Edge.{Edge}
use Rattle.world_cells.specs.declared.spans.Span.TheVariants as span
use Rattle.store_model.specs.Pages.{first_item, is_range}
use Rattle.page_select.specs.Ranges.{range}
use Rattle.page_select.specs.Looks.{first_part}
use Rattle.page_select.specs.Scans.{edge_past}
use Rattle.page_select.specs.Flanks.{is_cut_short}
use Rattle.page_select.proofs.Paged.{map_ok}
use Rattle.page_select.proofs.ReadParts.{within_more}
use Rattle.page_select.proofs.flanks.is_cut_short.Goals as goal

pub returns-clause-sees : goal.returns-clause-sees
returns-clause-sees g c = λ schema w now behind leads.
    let ranged : is_range c.args.page.now ≡ true = sym c.is_range.ensures ∙ c.if-not-is_range.false in
    let enough : c.args.page.now.size ≤ length c.args.rows.now = omega (arith, c.if-rows-page.false) in
    let full : nat_le c.args.page.now.size (length c.args.rows.now) ≡ true = grind (arith, nat_tests, enough) in
    map_ok _ (λ b. b ≡ is_cut_short now c.args.kind c.args.page.now c.args.rows.now c.args.low.now c.args.high.now) c.has_row.result
    (λ b is. is ∙ ap (λ (x : Edge). is_some (first_item (range now (span.Rows c.args.kind x c.args.high.now)))) c.edge_past.ensures
    ∙ sym (ap (λ t. t && (nat_le c.args.page.now.size (length c.args.rows.now) && is_some (first_item (range now (span.Rows c.args.kind (edge_past c.args.low.now c.args.rows.now) c.args.high.now))))) ranged
    ∙ ap (λ t. t && is_some (first_item (range now (span.Rows c.args.kind (edge_past c.args.low.now c.args.rows.now) c.args.high.now)))) full))
    (c.has_row.ensures.sees schema w now behind leads)

pub returns-clause-reach : goal.returns-clause-reach
returns-clause-reach g c = λ schema.
    within_more g.V.View.cells schema (first_part c.args.kind c.edge_past.result c.args.high.now) (first_part c.args.kind (edge_past c.args.low.now c.args.rows.now) c.args.high.now) c.args.recorder.now c.has_row.new.recorder
    (λ now k valid e. ap (λ (x : Edge). first_part c.args.kind x c.args.high.now now k) (sym c.edge_past.ensures) ∙ e) (c.has_row.ensures.reach schema)
