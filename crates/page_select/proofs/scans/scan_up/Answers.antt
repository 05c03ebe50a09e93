use Rattle.std.proofs.Common.{◌≡◌, ◌<◌, ◌++◌, List, length, Option, Some, None, sym, ap, subst, ◌∙◌, arith, inl, inr}
use Rattle.std.specs.Prelude.{IsTrue}
use Rattle.world_cells.specs.declared.keys.CellKey.{CellKey}
use Rattle.world_cells.specs.declared.rows.Row.{Row}
use Rattle.world_cells.specs.declared.spans.Edge.{Edge}
use Rattle.world_cells.specs.declared.spans.Edge.TheVariants as edge
use Rattle.world_cells.specs.declared.spans.Span.TheVariants as span
use Rattle.world_cells.specs.Reads.{in_span}
use Rattle.view_reads.specs.SpanLaws.{and_true}
use Rattle.trial_steps.specs.StepLaws.{looks_nothing, looks_on, sees_both, sees_so, sees_before, sees_after}
use Rattle.page_select.specs.Ranges.{range, anywhere, BeginsWith}
use Rattle.page_select.specs.Looks.{first_part}
use Rattle.page_select.specs.Scans.{IsScannedUp, read_up, edge_past}
use Rattle.page_select.proofs.ReadParts.{within_more, within_seen, within_nothing}
use Rattle.page_select.proofs.Scanning.{done, done_past, done_first, past_within, past_pushed, one_on, all_up, some_up}
use Rattle.page_select.proofs.scans.scan_up.Goals as goal

pub more-init : goal.more-init
more-init g c = record {
  few = omega arith;
  edge = sym (ap (edge_past c.args.low.now) c.new-rows.ensures.items);
  looks = looks_nothing anywhere c.args.recorder.now;
  sees = λ schema w now behind leads. sym (ap (λ (xs : List Row). xs ++ range now (span.Rows c.args.kind c.args.low.now c.args.high.now)) c.new-rows.ensures.items);
  inside = λ schema w now behind leads k e. e;
  within = λ schema. within_nothing g.V.View.cells schema _ c.args.recorder.now;
}

pub more-preserved : goal.more-preserved
more-preserved g c = record {
  few = (let len = c.in_ok-push.ensures.len in let test = c.more-test.true in let now = c.len.ensures in omega arith);
  edge = c.edge_at-from.ensures ∙ sym (ap (edge_past c.args.low.now) c.in_ok-push.ensures.items ∙ past_pushed c.args.low.now c.more.rows.items c.in-Some.row);
  looks = looks_on anywhere anywhere anywhere _ c.more.recorder _ (λ k e. e) (λ k e. e) c.more.invariant.looks c.first_row.ensures.looks;
  sees = λ schema.
      sees_both schema g.V.View.cells anywhere anywhere c.args.recorder.now c.more.recorder c.first_row.new.recorder
      (λ now. range now (span.Rows c.args.kind c.args.low.now c.args.high.now) ≡ c.more.rows.items ++ range now (span.Rows c.args.kind c.more.from c.args.high.now))
      (λ now. BeginsWith now c.args.kind c.more.from c.args.high.now (Some c.in-Some.row))
      (λ now. range now (span.Rows c.args.kind c.args.low.now c.args.high.now) ≡ c.push.new.self.items ++ range now (span.Rows c.args.kind c.edge_at-from.result c.args.high.now))
      (λ now is begins.
      one_on _ c.more.rows.items _ _ c.in-Some.row is begins
      ∙ ap (λ xs. xs ++ range now (span.Rows c.args.kind (edge.Open c.in-Some.row.key.id) c.args.high.now)) (sym c.in_ok-push.ensures.items)
      ∙ ap (λ (low : Edge). c.push.new.self.items ++ range now (span.Rows c.args.kind low c.args.high.now)) (sym c.edge_at-from.ensures))
      c.more.invariant.looks c.first_row.ensures.looks (c.more.invariant.sees schema)
      (λ w now behind leads. subst (λ (o : Option Row). BeginsWith now c.args.kind c.more.from c.args.high.now o) c.in-Some.is (c.in_ok-found.ensures.sees schema w now behind leads));
  inside = λ schema w now behind leads k inside.
      let before = sees_before schema g.V.View.cells anywhere c.args.recorder.now c.more.recorder c.first_row.new.recorder
      (λ now. (k : CellKey) → IsTrue (in_span (span.Rows c.args.kind c.more.from c.args.high.now) k) → IsTrue (in_span (span.Rows c.args.kind c.args.low.now c.args.high.now) k))
      c.first_row.ensures.looks (c.more.invariant.inside schema) w now behind leads in
      let begins = sees_after schema g.V.View.cells anywhere c.args.recorder.now c.more.recorder c.first_row.new.recorder
      (λ now. BeginsWith now c.args.kind c.more.from c.args.high.now (Some c.in-Some.row)) c.more.invariant.looks
      (λ w now behind leads. subst (λ (o : Option Row). BeginsWith now c.args.kind c.more.from c.args.high.now o) c.in-Some.is (c.in_ok-found.ensures.sees schema w now behind leads)) w now behind leads in
      before k (past_within schema now behind.now_valid c.args.kind c.args.low.now c.args.high.now c.more.from c.args.high.now c.in-Some.row k begins
      (ap (λ (low : Edge). in_span (span.Rows c.args.kind low c.args.high.now) k) (sym c.edge_at-from.ensures) ∙ inside));
  within = λ schema.
      within_seen g.V.View.cells schema (λ now. done c.args.kind c.args.low.now c.args.high.now c.more.from c.args.high.now) (first_part c.args.kind c.more.from c.args.high.now)
      (λ now. done c.args.kind c.args.low.now c.args.high.now c.edge_at-from.result c.args.high.now)
      (λ now. BeginsWith now c.args.kind c.more.from c.args.high.now (Some c.in-Some.row)
      × ((k : CellKey) → IsTrue (in_span (span.Rows c.args.kind c.more.from c.args.high.now) k) → IsTrue (in_span (span.Rows c.args.kind c.args.low.now c.args.high.now) k)))
      anywhere c.args.recorder.now c.more.recorder c.first_row.new.recorder c.more.invariant.looks
      (λ w now behind leads. (
        sees_after schema g.V.View.cells anywhere c.args.recorder.now c.more.recorder c.first_row.new.recorder
            (λ now. BeginsWith now c.args.kind c.more.from c.args.high.now (Some c.in-Some.row)) c.more.invariant.looks
            (λ w now behind leads. subst (λ (o : Option Row). BeginsWith now c.args.kind c.more.from c.args.high.now o) c.in-Some.is (c.in_ok-found.ensures.sees schema w now behind leads)) w now behind leads,
        sees_before schema g.V.View.cells anywhere c.args.recorder.now c.more.recorder c.first_row.new.recorder
            (λ now. (k : CellKey) → IsTrue (in_span (span.Rows c.args.kind c.more.from c.args.high.now) k) → IsTrue (in_span (span.Rows c.args.kind c.args.low.now c.args.high.now) k))
            c.first_row.ensures.looks (c.more.invariant.inside schema) w now behind leads,
      ))
      (λ now k valid seen e. ap (λ (x : Edge). done c.args.kind c.args.low.now c.args.high.now x c.args.high.now k) c.edge_at-from.ensures
      ∙ done_past schema now valid c.args.kind c.args.low.now c.args.high.now c.more.from c.args.high.now c.in-Some.row k seen.0 e)
      (λ now k valid seen e. ap (λ (x : Edge). done c.args.kind c.args.low.now c.args.high.now x c.args.high.now k) c.edge_at-from.ensures
      ∙ done_first schema now valid c.args.kind c.args.low.now c.args.high.now c.more.from c.args.high.now c.in-Some.row k seen.0 (seen.1 k) e)
      (c.more.invariant.within schema) (c.first_row.ensures.reach schema);
}

pub returns-in_default-clause-sees : goal.returns-in_default-clause-sees
returns-in_default-clause-sees g c = λ schema.
    let few : length c.more.rows.items < c.args.size = (let ok = c.more.rows.ok in let test = c.more-test.true in let now = c.len.ensures in omega arith) in
    sees_both schema g.V.View.cells anywhere anywhere c.args.recorder.now c.more.recorder c.first_row.new.recorder
    (λ now. range now (span.Rows c.args.kind c.args.low.now c.args.high.now) ≡ c.more.rows.items ++ range now (span.Rows c.args.kind c.more.from c.args.high.now))
    (λ now. BeginsWith now c.args.kind c.more.from c.args.high.now None)
    (λ now. IsScannedUp now c.args.kind c.args.low.now c.args.high.now c.args.size c.more.rows.items)
    (λ now is none. record {
      split = is ∙ ap (λ (x : Edge). c.more.rows.items ++ range now (span.Rows c.args.kind x c.args.high.now)) c.more.invariant.edge;
      enough = inr (few, ap (λ (x : Edge). range now (span.Rows c.args.kind x c.args.high.now)) (sym c.more.invariant.edge) ∙ none);
    })
    c.more.invariant.looks c.first_row.ensures.looks (c.more.invariant.sees schema)
    (λ w now behind leads. subst (λ (o : Option Row). BeginsWith now c.args.kind c.more.from c.args.high.now o) c.in_default.is (c.in_ok-found.ensures.sees schema w now behind leads))

pub returns-in_default-clause-reach : goal.returns-in_default-clause-reach
returns-in_default-clause-reach g c = λ schema.
    let few : length c.more.rows.items < c.args.size = (let ok = c.more.rows.ok in let test = c.more-test.true in let now = c.len.ensures in omega arith) in
    within_seen g.V.View.cells schema (λ now. done c.args.kind c.args.low.now c.args.high.now c.more.from c.args.high.now) (first_part c.args.kind c.more.from c.args.high.now)
    (λ now. read_up c.args.kind c.args.low.now c.args.high.now c.args.size c.more.rows.items)
    (λ now. (k : CellKey) → IsTrue (in_span (span.Rows c.args.kind c.more.from c.args.high.now) k) → IsTrue (in_span (span.Rows c.args.kind c.args.low.now c.args.high.now) k))
    anywhere c.args.recorder.now c.more.recorder c.first_row.new.recorder c.more.invariant.looks
    (sees_before schema g.V.View.cells anywhere c.args.recorder.now c.more.recorder c.first_row.new.recorder
    (λ now. (k : CellKey) → IsTrue (in_span (span.Rows c.args.kind c.more.from c.args.high.now) k) → IsTrue (in_span (span.Rows c.args.kind c.args.low.now c.args.high.now) k))
    c.first_row.ensures.looks (c.more.invariant.inside schema))
    (λ now k valid seen e. all_up c.args.kind c.args.low.now c.args.high.now c.args.size c.more.rows.items k few (and_true _ _ e).0)
    (λ now k valid seen e. all_up c.args.kind c.args.low.now c.args.high.now c.args.size c.more.rows.items k few (seen k (and_true _ _ e).0))
    (c.more.invariant.within schema) (c.first_row.ensures.reach schema)

pub returns-clause-sees : goal.returns-clause-sees
returns-clause-sees g c = λ schema.
    let full : length c.more.rows.items ≡ c.args.size = (let ok = c.more.rows.ok in let few = c.more.invariant.few in let test = c.more-test.false in let now = c.len.ensures in omega arith) in
    sees_so schema g.V.View.cells c.args.recorder.now c.more.recorder
    (λ now. range now (span.Rows c.args.kind c.args.low.now c.args.high.now) ≡ c.more.rows.items ++ range now (span.Rows c.args.kind c.more.from c.args.high.now))
    (λ now. IsScannedUp now c.args.kind c.args.low.now c.args.high.now c.args.size c.more.rows.items)
    (λ now is. record {
      split = is ∙ ap (λ (x : Edge). c.more.rows.items ++ range now (span.Rows c.args.kind x c.args.high.now)) c.more.invariant.edge;
      enough = inl full;
    }) (c.more.invariant.sees schema)

pub returns-clause-reach : goal.returns-clause-reach
returns-clause-reach g c = λ schema.
    within_more g.V.View.cells schema (λ now. done c.args.kind c.args.low.now c.args.high.now c.more.from c.args.high.now) (λ now. read_up c.args.kind c.args.low.now c.args.high.now c.args.size c.more.rows.items)
    c.args.recorder.now c.more.recorder
    (λ now k valid e. some_up c.args.kind c.args.low.now c.args.high.now c.args.size c.more.rows.items k c.more.from c.more.invariant.edge e)
    (c.more.invariant.within schema)
