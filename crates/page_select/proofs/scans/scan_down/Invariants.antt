use Rattle.std.proofs.Common.{◌≡◌, ◌≤◌, ◌++◌, ◌-◌, reverse, vec_len}
use Rattle.std.specs.Prelude.{IsTrue}
use Rattle.resource_schema.specs.declared.schema.Schema.{Schema}
use Rattle.world_cells.specs.declared.keys.CellKey.{CellKey}
use Rattle.world_cells.specs.declared.spans.Span.TheVariants as span
use Rattle.world_cells.specs.Reads.{in_span}
use Rattle.trial_steps.specs.Steps.{LooksAt, ReadsWithin, Sees}
use Rattle.page_select.specs.Ranges.{range, anywhere}
use Rattle.page_select.specs.Scans.{edge_before}
use Rattle.page_select.proofs.Scanning.{done}
use Rattle.page_select.proofs.scans.scan_down.Given as goal

abbrev pub invariant-back : goal.invariant-back
invariant-back g l = record {
  few : vec_len l.rows ≤ l.size;
  edge : l.to ≡ edge_before l.high (reverse l.rows.items);
  looks : LooksAt anywhere l.initial.recorder l.recorder;
  sees : (schema : Schema) → Sees schema g.V.View.cells l.initial.recorder l.recorder (λ now. range now (span.Rows l.kind l.low l.high) ≡ range now (span.Rows l.kind l.low l.to) ++ reverse l.rows.items);
  inside : (schema : Schema) → Sees schema g.V.View.cells l.initial.recorder l.recorder (λ now. (k : CellKey) → IsTrue (in_span (span.Rows l.kind l.low l.to) k) → IsTrue (in_span (span.Rows l.kind l.low l.high) k));
  within : (schema : Schema) → ReadsWithin schema g.V.View.cells (λ now. done l.kind l.low l.high l.low l.to) l.initial.recorder l.recorder;
}

abbrev pub decreases-back : goal.decreases-back
decreases-back g l = l.size - vec_len l.rows
