use Rattle.std.proofs.Common.{◌≡◌, [], true, false}
use Rattle.std.specs.Prelude.{IfOk}
use Rattle.store_model.specs.Pages.{page_of, rows_of}
use Rattle.store_model.specs.Reach.{is_row_of, reach_sorted}
use Rattle.trial_steps.specs.StepLaws.{looks_on, sees_before, sees_after}
use Rattle.page_select.specs.Ranges.{anywhere}
use Rattle.page_select.specs.Edges.{low_edge, high_edge}
use Rattle.page_select.specs.Scans.{IsScannedDown, read_down}
use Rattle.page_select.specs.Flanks.{IsFlanked, flank_part}
use Rattle.page_select.proofs.Tests.{turned}
use Rattle.page_select.proofs.ReadParts.{within_seen}
use Rattle.page_select.proofs.Paged.{shown_down, map_ok}
use Rattle.page_select.proofs.PageReach.{is_shown_down, down_reach, flank_reach}
use Rattle.page_select.proofs.by_id.page_down.Goals as goal

pub returns-clause-looks : goal.returns-clause-looks
returns-clause-looks g c =
    looks_on anywhere anywhere anywhere c.args.recorder.now c.scan_down.new.recorder c.flanked.new.recorder (λ k e. e) (λ k e. e) c.in_ok-rows.ensures.looks c.flanked.ensures.looks

pub returns-clause-sees : goal.returns-clause-sees
returns-clause-sees g c = λ schema w now behind leads.
    let scan = turned (λ low high. IsScannedDown now c.args.kind low high c.args.page.now.size c.in_ok-rows.rows.items) c.low_edge-low.result _ c.high_edge-high.result _ c.low_edge-low.ensures c.high_edge-high.ensures
    (sees_before schema g.V.View.cells anywhere c.args.recorder.now c.scan_down.new.recorder c.flanked.new.recorder
    (λ now. IsScannedDown now c.args.kind c.low_edge-low.result c.high_edge-high.result c.args.page.now.size c.in_ok-rows.rows.items) c.flanked.ensures.looks (c.in_ok-rows.ensures.sees schema) w now behind leads) in
    let told = sees_after schema g.V.View.cells anywhere c.args.recorder.now c.scan_down.new.recorder c.flanked.new.recorder
    (λ now. IfOk c.flanked.result (IsFlanked now c.args.kind c.in_ok-rows.rows.items false)) c.in_ok-rows.ensures.looks (c.flanked.ensures.sees schema) w now behind leads in
    map_ok (IsFlanked now c.args.kind c.in_ok-rows.rows.items false) (λ s. s ≡ page_of [] c.args.page.now (rows_of now c.args.kind)) c.flanked.result
    (λ s flanked. shown_down schema now c.args.kind c.args.page.now c.in_ok-rows.rows.items s behind.now_valid c.requires scan flanked) told

pub returns-clause-reach : goal.returns-clause-reach
returns-clause-reach g c = λ schema.
    map_ok _ _ c.flanked.result
    (λ s flanks. within_seen g.V.View.cells schema
    (λ now. read_down c.args.kind c.low_edge-low.result c.high_edge-high.result c.args.page.now.size c.in_ok-rows.rows.items)
    (flank_part c.args.kind c.in_ok-rows.rows.items)
    (λ now. is_row_of (reach_sorted now c.args.kind c.args.page.now []))
    (λ now. IsScannedDown now c.args.kind (low_edge c.args.page.now) (high_edge c.args.page.now) c.args.page.now.size c.in_ok-rows.rows.items)
    anywhere c.args.recorder.now c.scan_down.new.recorder c.flanked.new.recorder c.in_ok-rows.ensures.looks
    (λ w now behind leads. turned (λ low high. IsScannedDown now c.args.kind low high c.args.page.now.size c.in_ok-rows.rows.items) c.low_edge-low.result _ c.high_edge-high.result _ c.low_edge-low.ensures c.high_edge-high.ensures
    (sees_before schema g.V.View.cells anywhere c.args.recorder.now c.scan_down.new.recorder c.flanked.new.recorder
    (λ now. IsScannedDown now c.args.kind c.low_edge-low.result c.high_edge-high.result c.args.page.now.size c.in_ok-rows.rows.items) c.flanked.ensures.looks (c.in_ok-rows.ensures.sees schema) w now behind leads))
    (λ now k valid scan e. down_reach schema now valid c.args.kind c.args.page.now c.in_ok-rows.rows.items k c.requires scan
    (turned (λ low high. read_down c.args.kind low high c.args.page.now.size c.in_ok-rows.rows.items k ≡ true) c.low_edge-low.result _ c.high_edge-high.result _ c.low_edge-low.ensures c.high_edge-high.ensures e))
    (λ now k valid scan e. flank_reach schema now valid c.args.kind c.args.page.now c.in_ok-rows.rows.items k (is_shown_down schema now valid c.args.kind c.args.page.now c.in_ok-rows.rows.items c.requires scan) e)
    (c.in_ok-rows.ensures.reach schema) flanks)
    (c.flanked.ensures.reach schema)
