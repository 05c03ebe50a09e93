use Rattle.std.proofs.Common.{◌≡◌, ◌≤◌, ◌++◌, ◌-◌, vec_len}
use Rattle.std.specs.Prelude.{IsTrue}
use Rattle.resource_schema.specs.declared.schema.Schema.{Schema}
use Rattle.world_cells.specs.declared.keys.CellKey.{CellKey}
use Rattle.world_cells.specs.declared.spans.Span.TheVariants as span
use Rattle.world_cells.specs.Reads.{in_span}
use Rattle.trial_steps.specs.Steps.{LooksAt, ReadsWithin, Sees}
use Rattle.page_select.specs.Ranges.{range, anywhere}
use Rattle.page_select.specs.Scans.{edge_past}
use Rattle.page_select.proofs.Scanning.{done}
use Rattle.page_select.proofs.scans.scan_up.Given as goal

abbrev pub invariant-more : goal.invariant-more
invariant-more g l = record {
  few : vec_len l.rows ≤ l.size;
  edge : l.from ≡ edge_past l.low l.rows.items;
  looks : LooksAt anywhere l.initial.recorder l.recorder;
  sees : (schema : Schema) → Sees schema g.V.View.cells l.initial.recorder l.recorder (λ now. range now (span.Rows l.kind l.low l.high) ≡ l.rows.items ++ range now (span.Rows l.kind l.from l.high));
  inside : (schema : Schema) → Sees schema g.V.View.cells l.initial.recorder l.recorder (λ now. (k : CellKey) → IsTrue (in_span (span.Rows l.kind l.from l.high) k) → IsTrue (in_span (span.Rows l.kind l.low l.high) k));
  within : (schema : Schema) → ReadsWithin schema g.V.View.cells (λ now. done l.kind l.low l.high l.from l.high) l.initial.recorder l.recorder;
}

abbrev pub decreases-more : goal.decreases-more
decreases-more g l = l.size - vec_len l.rows
