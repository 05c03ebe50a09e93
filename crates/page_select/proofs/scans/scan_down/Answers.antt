use Rattle.std.proofs.Common.{◌≡◌, ◌<◌, ◌++◌, List, length, reverse, Option, Some, None, sym, ap, subst, ◌∙◌, arith, inl, inr}
use Rattle.std.proofs.lemmas.List.{append-nil, length-reverse}
use Rattle.std.specs.Prelude.{IsTrue}
use Rattle.world_cells.specs.declared.keys.CellKey.{CellKey}
use Rattle.world_cells.specs.declared.rows.Row.{Row}
use Rattle.world_cells.specs.declared.spans.Edge.{Edge}
use Rattle.world_cells.specs.declared.spans.Edge.TheVariants as edge
use Rattle.world_cells.specs.declared.spans.Span.TheVariants as span
use Rattle.world_cells.specs.Reads.{in_span}
use Rattle.view_reads.specs.SpanLaws.{and_true}
use Rattle.trial_steps.specs.StepLaws.{looks_nothing, looks_on, sees_both, sees_so, sees_before, sees_after}
use Rattle.page_select.specs.Ranges.{range, anywhere, EndsWith}
use Rattle.page_select.specs.Looks.{last_part}
use Rattle.page_select.specs.Scans.{IsScannedDown, read_down, edge_before}
use Rattle.page_select.proofs.ReadParts.{within_more, within_seen, within_nothing}
use Rattle.page_select.proofs.Scanning.{done, done_before, done_last, before_within, before_pushed, one_before, all_down, some_down}
use Rattle.page_select.proofs.scans.scan_down.Goals as goal

pub back-init : goal.back-init
back-init g c = record {
  few = omega arith;
  edge = sym (ap (λ (xs : List Row). edge_before c.args.high.now (reverse xs)) c.new-rows.ensures.items);
  looks = looks_nothing anywhere c.args.recorder.now;
  sees = λ schema w now behind leads. sym (ap (λ (xs : List Row). range now (span.Rows c.args.kind c.args.low.now c.args.high.now) ++ reverse xs) c.new-rows.ensures.items ∙ append-nil (range now (span.Rows c.args.kind c.args.low.now c.args.high.now)));
  inside = λ schema w now behind leads k e. e;
  within = λ schema. within_nothing g.V.View.cells schema _ c.args.recorder.now;
}

pub back-preserved : goal.back-preserved
back-preserved g c = record {
  few = (let len = c.in_ok-push.ensures.len in let test = c.back-test.true in let now = c.len.ensures in omega arith);
  edge = c.edge_at-to.ensures ∙ sym (ap (λ xs. edge_before c.args.high.now (reverse xs)) c.in_ok-push.ensures.items ∙ before_pushed c.args.high.now c.back.rows.items c.in-Some.row);
  looks = looks_on anywhere anywhere anywhere _ c.back.recorder _ (λ k e. e) (λ k e. e) c.back.invariant.looks c.last_row.ensures.looks;
  sees = λ schema.
      sees_both schema g.V.View.cells anywhere anywhere c.args.recorder.now c.back.recorder c.last_row.new.recorder
      (λ now. range now (span.Rows c.args.kind c.args.low.now c.args.high.now) ≡ range now (span.Rows c.args.kind c.args.low.now c.back.to) ++ reverse c.back.rows.items)
      (λ now. EndsWith now c.args.kind c.args.low.now c.back.to (Some c.in-Some.row))
      (λ now. range now (span.Rows c.args.kind c.args.low.now c.args.high.now) ≡ range now (span.Rows c.args.kind c.args.low.now c.edge_at-to.result) ++ reverse c.push.new.self.items)
      (λ now is ends.
      one_before _ _ _ c.back.rows.items c.in-Some.row is ends
      ∙ ap (λ xs. range now (span.Rows c.args.kind c.args.low.now (edge.Open c.in-Some.row.key.id)) ++ reverse xs) (sym c.in_ok-push.ensures.items)
      ∙ ap (λ (high : Edge). range now (span.Rows c.args.kind c.args.low.now high) ++ reverse c.push.new.self.items) (sym c.edge_at-to.ensures))
      c.back.invariant.looks c.last_row.ensures.looks (c.back.invariant.sees schema)
      (λ w now behind leads. subst (λ (o : Option Row). EndsWith now c.args.kind c.args.low.now c.back.to o) c.in-Some.is (c.in_ok-found.ensures.sees schema w now behind leads));
  inside = λ schema w now behind leads k inside.
      let before = sees_before schema g.V.View.cells anywhere c.args.recorder.now c.back.recorder c.last_row.new.recorder
      (λ now. (k : CellKey) → IsTrue (in_span (span.Rows c.args.kind c.args.low.now c.back.to) k) → IsTrue (in_span (span.Rows c.args.kind c.args.low.now c.args.high.now) k))
      c.last_row.ensures.looks (c.back.invariant.inside schema) w now behind leads in
      let ends = sees_after schema g.V.View.cells anywhere c.args.recorder.now c.back.recorder c.last_row.new.recorder
      (λ now. EndsWith now c.args.kind c.args.low.now c.back.to (Some c.in-Some.row)) c.back.invariant.looks
      (λ w now behind leads. subst (λ (o : Option Row). EndsWith now c.args.kind c.args.low.now c.back.to o) c.in-Some.is (c.in_ok-found.ensures.sees schema w now behind leads)) w now behind leads in
      before k (before_within schema now behind.now_valid c.args.kind c.args.low.now c.args.high.now c.args.low.now c.back.to c.in-Some.row k ends
      (ap (λ (high : Edge). in_span (span.Rows c.args.kind c.args.low.now high) k) (sym c.edge_at-to.ensures) ∙ inside));
  within = λ schema.
      within_seen g.V.View.cells schema (λ now. done c.args.kind c.args.low.now c.args.high.now c.args.low.now c.back.to) (last_part c.args.kind c.args.low.now c.back.to)
      (λ now. done c.args.kind c.args.low.now c.args.high.now c.args.low.now c.edge_at-to.result)
      (λ now. EndsWith now c.args.kind c.args.low.now c.back.to (Some c.in-Some.row)
      × ((k : CellKey) → IsTrue (in_span (span.Rows c.args.kind c.args.low.now c.back.to) k) → IsTrue (in_span (span.Rows c.args.kind c.args.low.now c.args.high.now) k)))
      anywhere c.args.recorder.now c.back.recorder c.last_row.new.recorder c.back.invariant.looks
      (λ w now behind leads. (
        sees_after schema g.V.View.cells anywhere c.args.recorder.now c.back.recorder c.last_row.new.recorder
            (λ now. EndsWith now c.args.kind c.args.low.now c.back.to (Some c.in-Some.row)) c.back.invariant.looks
            (λ w now behind leads. subst (λ (o : Option Row). EndsWith now c.args.kind c.args.low.now c.back.to o) c.in-Some.is (c.in_ok-found.ensures.sees schema w now behind leads)) w now behind leads,
        sees_before schema g.V.View.cells anywhere c.args.recorder.now c.back.recorder c.last_row.new.recorder
            (λ now. (k : CellKey) → IsTrue (in_span (span.Rows c.args.kind c.args.low.now c.back.to) k) → IsTrue (in_span (span.Rows c.args.kind c.args.low.now c.args.high.now) k))
            c.last_row.ensures.looks (c.back.invariant.inside schema) w now behind leads,
      ))
      (λ now k valid seen e. ap (λ (x : Edge). done c.args.kind c.args.low.now c.args.high.now c.args.low.now x k) c.edge_at-to.ensures
      ∙ done_before schema now valid c.args.kind c.args.low.now c.args.high.now c.args.low.now c.back.to c.in-Some.row k seen.0 e)
      (λ now k valid seen e. ap (λ (x : Edge). done c.args.kind c.args.low.now c.args.high.now c.args.low.now x k) c.edge_at-to.ensures
      ∙ done_last schema now valid c.args.kind c.args.low.now c.args.high.now c.args.low.now c.back.to c.in-Some.row k seen.0 (seen.1 k) e)
      (c.back.invariant.within schema) (c.last_row.ensures.reach schema);
}

pub returns-in_default-clause-sees : goal.returns-in_default-clause-sees
returns-in_default-clause-sees g c = λ schema.
    let few : length c.reversed.result.items < c.args.size = (let same = ap length c.reversed.ensures ∙ length-reverse c.back.rows.items in let ok = c.back.rows.ok in let test = c.back-test.true in let now = c.len.ensures in omega arith) in
    sees_both schema g.V.View.cells anywhere anywhere c.args.recorder.now c.back.recorder c.last_row.new.recorder
    (λ now. range now (span.Rows c.args.kind c.args.low.now c.args.high.now) ≡ range now (span.Rows c.args.kind c.args.low.now c.back.to) ++ reverse c.back.rows.items)
    (λ now. EndsWith now c.args.kind c.args.low.now c.back.to None)
    (λ now. IsScannedDown now c.args.kind c.args.low.now c.args.high.now c.args.size c.reversed.result.items)
    (λ now is none. record {
      split = is ∙ ap (λ (x : Edge). range now (span.Rows c.args.kind c.args.low.now x) ++ reverse c.back.rows.items) c.back.invariant.edge ∙ ap (λ xs. range now (span.Rows c.args.kind c.args.low.now (edge_before c.args.high.now xs)) ++ xs) (sym c.reversed.ensures);
      enough = inr (few, ap (λ xs. range now (span.Rows c.args.kind c.args.low.now (edge_before c.args.high.now xs))) c.reversed.ensures ∙ ap (λ (x : Edge). range now (span.Rows c.args.kind c.args.low.now x)) (sym c.back.invariant.edge) ∙ none);
    })
    c.back.invariant.looks c.last_row.ensures.looks (c.back.invariant.sees schema)
    (λ w now behind leads. subst (λ (o : Option Row). EndsWith now c.args.kind c.args.low.now c.back.to o) c.in_default.is (c.in_ok-found.ensures.sees schema w now behind leads))

pub returns-in_default-clause-reach : goal.returns-in_default-clause-reach
returns-in_default-clause-reach g c = λ schema.
    let few : length c.reversed.result.items < c.args.size = (let same = ap length c.reversed.ensures ∙ length-reverse c.back.rows.items in let ok = c.back.rows.ok in let test = c.back-test.true in let now = c.len.ensures in omega arith) in
    within_seen g.V.View.cells schema (λ now. done c.args.kind c.args.low.now c.args.high.now c.args.low.now c.back.to) (last_part c.args.kind c.args.low.now c.back.to)
    (λ now. read_down c.args.kind c.args.low.now c.args.high.now c.args.size c.reversed.result.items)
    (λ now. (k : CellKey) → IsTrue (in_span (span.Rows c.args.kind c.args.low.now c.back.to) k) → IsTrue (in_span (span.Rows c.args.kind c.args.low.now c.args.high.now) k))
    anywhere c.args.recorder.now c.back.recorder c.last_row.new.recorder c.back.invariant.looks
    (sees_before schema g.V.View.cells anywhere c.args.recorder.now c.back.recorder c.last_row.new.recorder
    (λ now. (k : CellKey) → IsTrue (in_span (span.Rows c.args.kind c.args.low.now c.back.to) k) → IsTrue (in_span (span.Rows c.args.kind c.args.low.now c.args.high.now) k))
    c.last_row.ensures.looks (c.back.invariant.inside schema))
    (λ now k valid seen e. all_down c.args.kind c.args.low.now c.args.high.now c.args.size c.reversed.result.items k few (and_true _ _ e).0)
    (λ now k valid seen e. all_down c.args.kind c.args.low.now c.args.high.now c.args.size c.reversed.result.items k few (seen k (and_true _ _ e).0))
    (c.back.invariant.within schema) (c.last_row.ensures.reach schema)

pub returns-clause-sees : goal.returns-clause-sees
returns-clause-sees g c = λ schema.
    let full : length c.reversed-2.result.items ≡ c.args.size = (let same = ap length c.reversed-2.ensures ∙ length-reverse c.back.rows.items in let ok = c.back.rows.ok in let few = c.back.invariant.few in let test = c.back-test.false in let now = c.len.ensures in omega arith) in
    sees_so schema g.V.View.cells c.args.recorder.now c.back.recorder
    (λ now. range now (span.Rows c.args.kind c.args.low.now c.args.high.now) ≡ range now (span.Rows c.args.kind c.args.low.now c.back.to) ++ reverse c.back.rows.items)
    (λ now. IsScannedDown now c.args.kind c.args.low.now c.args.high.now c.args.size c.reversed-2.result.items)
    (λ now is. record {
      split = is ∙ ap (λ (x : Edge). range now (span.Rows c.args.kind c.args.low.now x) ++ reverse c.back.rows.items) c.back.invariant.edge ∙ ap (λ xs. range now (span.Rows c.args.kind c.args.low.now (edge_before c.args.high.now xs)) ++ xs) (sym c.reversed-2.ensures);
      enough = inl full;
    }) (c.back.invariant.sees schema)

pub returns-clause-reach : goal.returns-clause-reach
returns-clause-reach g c = λ schema.
    within_more g.V.View.cells schema (λ now. done c.args.kind c.args.low.now c.args.high.now c.args.low.now c.back.to) (λ now. read_down c.args.kind c.args.low.now c.args.high.now c.args.size c.reversed-2.result.items)
    c.args.recorder.now c.back.recorder
    (λ now k valid e. some_down c.args.kind c.args.low.now c.args.high.now c.args.size c.reversed-2.result.items k c.back.to (c.back.invariant.edge ∙ ap (edge_before c.args.high.now) (sym c.reversed-2.ensures)) e)
    (c.back.invariant.within schema)
