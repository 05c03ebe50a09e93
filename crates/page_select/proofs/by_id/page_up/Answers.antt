use Rattle.std.proofs.Common.{◌≡◌, ◌∙◌, [], List, true, sym, ap}
use Rattle.std.specs.Prelude.{IfOk}
use Rattle.world_cells.specs.declared.rows.Row.{Row}
use Rattle.world_cells.specs.declared.spans.Edge.{Edge}
use Rattle.store_model.specs.Pages.{page_of, rows_of}
use Rattle.store_model.specs.Reach.{is_row_of, reach_sorted}
use Rattle.trial_steps.specs.StepLaws.{looks_on}
use Rattle.page_select.specs.Ranges.{anywhere}
use Rattle.page_select.specs.Edges.{low_edge, high_edge}
use Rattle.page_select.specs.Looks.{first_part}
use Rattle.page_select.specs.Scans.{IsScannedUp, read_up, edge_past}
use Rattle.page_select.specs.Flanks.{IsFlanked, flank_part, is_cut_short}
use Rattle.page_select.proofs.Tests.{turned}
use Rattle.page_select.proofs.ReadParts.{seen_three, within_three}
use Rattle.page_select.proofs.Paged.{shown_up, map_ok}
use Rattle.page_select.proofs.PageReach.{is_shown_up, up_reach, past_reach, flank_reach}
use Rattle.page_select.proofs.by_id.page_up.Goals as goal

pub returns-clause-looks : goal.returns-clause-looks
returns-clause-looks g c =
    looks_on anywhere anywhere anywhere c.args.recorder.now c.is_cut_short.new.recorder c.flanked.new.recorder (λ k e. e) (λ k e. e)
    (looks_on anywhere anywhere anywhere c.args.recorder.now c.scan_up.new.recorder c.is_cut_short.new.recorder (λ k e. e) (λ k e. e) c.in_ok-rows.ensures.looks c.in_ok-truncated.ensures.looks) c.flanked.ensures.looks

pub returns-clause-sees : goal.returns-clause-sees
returns-clause-sees g c = λ schema w now behind leads.
    let rows = c.in_ok-rows.rows.items in
    let page = c.args.page.now in
    let seen = seen_three g.V.View.cells schema
    (λ now. IsScannedUp now c.args.kind c.low_edge-low.result c.high_edge-high.result c.args.page.now.size c.in_ok-rows.rows.items)
    (λ now. c.in_ok-truncated.truncated ≡ is_cut_short now c.args.kind c.args.page.now c.as_slice.result.now c.low_edge-low.result c.high_edge-high.result)
    (λ now. IfOk c.flanked.result (IsFlanked now c.args.kind c.in_ok-rows.rows.items c.in_ok-truncated.truncated))
    c.args.recorder.now c.scan_up.new.recorder c.is_cut_short.new.recorder c.flanked.new.recorder c.in_ok-rows.ensures.looks c.in_ok-truncated.ensures.looks c.flanked.ensures.looks
    (c.in_ok-rows.ensures.sees schema) (c.in_ok-truncated.ensures.sees schema) (c.flanked.ensures.sees schema) w now behind leads in
    let scan : IsScannedUp now c.args.kind (low_edge c.args.page.now) (high_edge c.args.page.now) c.args.page.now.size c.in_ok-rows.rows.items =
    turned (λ low high. IsScannedUp now c.args.kind low high c.args.page.now.size c.in_ok-rows.rows.items) c.low_edge-low.result _ c.high_edge-high.result _ c.low_edge-low.ensures c.high_edge-high.ensures seen.0 in
    let cut : c.in_ok-truncated.truncated ≡ is_cut_short now c.args.kind c.args.page.now c.in_ok-rows.rows.items (low_edge c.args.page.now) (high_edge c.args.page.now) =
    seen.1 ∙ ap (λ (xs : List Row). is_cut_short now c.args.kind c.args.page.now xs c.low_edge-low.result c.high_edge-high.result) c.as_slice.ensures.value
    ∙ ap (λ (x : Edge). is_cut_short now c.args.kind c.args.page.now c.in_ok-rows.rows.items x c.high_edge-high.result) c.low_edge-low.ensures
    ∙ ap (λ (x : Edge). is_cut_short now c.args.kind c.args.page.now c.in_ok-rows.rows.items (low_edge c.args.page.now) x) c.high_edge-high.ensures in
    map_ok (IsFlanked now c.args.kind c.in_ok-rows.rows.items c.in_ok-truncated.truncated) (λ s. s ≡ page_of [] c.args.page.now (rows_of now c.args.kind)) c.flanked.result
    (λ s flanked. shown_up schema now c.args.kind c.args.page.now c.in_ok-rows.rows.items c.in_ok-truncated.truncated s behind.now_valid c.requires scan cut flanked) seen.2

pub returns-clause-reach : goal.returns-clause-reach
returns-clause-reach g c = λ schema.
    map_ok _ _ c.flanked.result
    (λ s flanks. within_three g.V.View.cells schema
    (λ now. read_up c.args.kind c.low_edge-low.result c.high_edge-high.result c.args.page.now.size c.in_ok-rows.rows.items)
    (first_part c.args.kind (edge_past c.low_edge-low.result c.as_slice.result.now) c.high_edge-high.result)
    (flank_part c.args.kind c.in_ok-rows.rows.items)
    (λ now. is_row_of (reach_sorted now c.args.kind c.args.page.now []))
    (λ now. IsScannedUp now c.args.kind (low_edge c.args.page.now) (high_edge c.args.page.now) c.args.page.now.size c.in_ok-rows.rows.items)
    c.args.recorder.now c.scan_up.new.recorder c.is_cut_short.new.recorder c.flanked.new.recorder c.in_ok-rows.ensures.looks c.in_ok-truncated.ensures.looks
    (λ w now behind leads. turned (λ low high. IsScannedUp now c.args.kind low high c.args.page.now.size c.in_ok-rows.rows.items) c.low_edge-low.result _ c.high_edge-high.result _ c.low_edge-low.ensures c.high_edge-high.ensures
    (seen_three g.V.View.cells schema
    (λ now. IsScannedUp now c.args.kind c.low_edge-low.result c.high_edge-high.result c.args.page.now.size c.in_ok-rows.rows.items)
    (λ now. c.in_ok-truncated.truncated ≡ is_cut_short now c.args.kind c.args.page.now c.as_slice.result.now c.low_edge-low.result c.high_edge-high.result)
    (λ now. IfOk c.flanked.result (IsFlanked now c.args.kind c.in_ok-rows.rows.items c.in_ok-truncated.truncated))
    c.args.recorder.now c.scan_up.new.recorder c.is_cut_short.new.recorder c.flanked.new.recorder c.in_ok-rows.ensures.looks c.in_ok-truncated.ensures.looks c.flanked.ensures.looks
    (c.in_ok-rows.ensures.sees schema) (c.in_ok-truncated.ensures.sees schema) (c.flanked.ensures.sees schema) w now behind leads).0)
    (λ now k valid scan e. up_reach schema now valid c.args.kind c.args.page.now c.in_ok-rows.rows.items k c.requires scan
    (turned (λ low high. read_up c.args.kind low high c.args.page.now.size c.in_ok-rows.rows.items k ≡ true) c.low_edge-low.result _ c.high_edge-high.result _ c.low_edge-low.ensures c.high_edge-high.ensures e))
    (λ now k valid scan e. past_reach schema now valid c.args.kind c.args.page.now c.in_ok-rows.rows.items k (is_shown_up schema now valid c.args.kind c.args.page.now c.in_ok-rows.rows.items c.requires scan)
    (turned (λ low high. first_part c.args.kind (edge_past low c.in_ok-rows.rows.items) high now k ≡ true) c.low_edge-low.result _ c.high_edge-high.result _ c.low_edge-low.ensures c.high_edge-high.ensures
    (sym (ap (λ (xs : List Row). first_part c.args.kind (edge_past c.low_edge-low.result xs) c.high_edge-high.result now k) c.as_slice.ensures.value) ∙ e)))
    (λ now k valid scan e. flank_reach schema now valid c.args.kind c.args.page.now c.in_ok-rows.rows.items k (is_shown_up schema now valid c.args.kind c.args.page.now c.in_ok-rows.rows.items c.requires scan) e)
    (c.in_ok-rows.ensures.reach schema) (c.in_ok-truncated.ensures.reach schema) flanks)
    (c.flanked.ensures.reach schema)
