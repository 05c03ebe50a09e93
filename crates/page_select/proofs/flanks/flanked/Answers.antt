use Rattle.std.proofs.Common.{◌≡◌, ◌∙◌, refl, sym, ap, arith}
use Rattle.std.specs.Prelude.{is_some}
use Rattle.world_cells.specs.declared.spans.Edge.{Edge}
use Rattle.world_cells.specs.declared.spans.Edge.TheVariants as edge
use Rattle.world_cells.specs.declared.spans.Span.TheVariants as span
use Rattle.store_model.specs.Pages.{first_item}
use Rattle.trial_steps.specs.StepLaws.{sees_both}
use Rattle.page_select.specs.Ranges.{range, anywhere}
use Rattle.page_select.specs.Looks.{first_part, last_part}
use Rattle.page_select.specs.Flanks.{IsFlanked, flank_part}
use Rattle.page_select.proofs.ReadParts.{within_both}
use Rattle.page_select.proofs.Beside.{tells_before, tells_after, flank_left, flank_right}
use Rattle.page_select.proofs.flanks.flanked.Goals as goal

pub returns-clause-sees : goal.returns-clause-sees
returns-clause-sees g c = λ schema.
    sees_both schema g.V.View.cells anywhere anywhere c.args.recorder.now c.has_row_below.new.recorder c.has_row.new.recorder
    (λ now. c.in_ok-before.before ≡ is_some (first_item (range now (span.Rows c.args.kind edge.End (edge.Open c.index.result.now.key.id)))))
    (λ now. c.in_ok-after.after ≡ is_some (first_item (range now (span.Rows c.args.kind c.edge_at-past.result edge.End))))
    (λ now. IsFlanked now c.args.kind c.args.rows.items c.args.truncated (record { rows = c.from_vec-2.result; before = c.in_ok-before.before; after = c.in_ok-after.after; truncated = c.args.truncated }))
    (λ now before after. record {
      same = c.from_vec-2.ensures;
      before = tells_before now c.args.kind c.args.rows.items c.index.result.now c.in_ok-before.before (let ok = c.args.rows.ok in let n = c.len-count.ensures in omega arith) c.index.ensures before;
      after = tells_after now c.args.kind c.args.rows.items c.index-2.result.now c.len-count.result c.in_ok-after.after (omega arith) (let ok = c.args.rows.ok in let n = c.len-count.ensures in omega arith) c.index-2.ensures
          (after ∙ ap (λ (x : Edge). is_some (first_item (range now (span.Rows c.args.kind x edge.End)))) c.edge_at-past.ensures);
      truncated = refl;
    })
    c.in_ok-before.ensures.looks c.in_ok-after.ensures.looks (c.in_ok-before.ensures.sees schema) (c.in_ok-after.ensures.sees schema)

pub returns-clause-reach : goal.returns-clause-reach
returns-clause-reach g c = λ schema.
    within_both g.V.View.cells schema (last_part c.args.kind edge.End (edge.Open c.index.result.now.key.id)) (first_part c.args.kind c.edge_at-past.result edge.End)
    (flank_part c.args.kind c.args.rows.items) anywhere c.args.recorder.now c.has_row_below.new.recorder c.has_row.new.recorder c.in_ok-before.ensures.looks
    (λ now k valid e. flank_left now c.args.kind c.args.rows.items c.index.result.now k (let ok = c.args.rows.ok in let n = c.len-count.ensures in omega arith) c.index.ensures e)
    (λ now k valid e. flank_right now c.args.kind c.args.rows.items c.index-2.result.now c.len-count.result k (omega arith) (let ok = c.args.rows.ok in let n = c.len-count.ensures in omega arith) c.index-2.ensures
    (ap (λ (x : Edge). first_part c.args.kind x edge.End now k) (sym c.edge_at-past.ensures) ∙ e))
    (c.in_ok-before.ensures.reach schema) (c.in_ok-after.ensures.reach schema)
