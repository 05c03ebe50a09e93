use Rattle.std.proofs.Common.{◌≡◌, take}
use Rattle.resource_schema.specs.declared.schema.Schema.{Schema}
use Rattle.store_model.specs.Pages.{rows_at}
use Rattle.store_model.specs.Reach.{is_row_in}
use Rattle.trial_steps.specs.Steps.{LooksAt, Sees}
use Rattle.page_select.proofs.listed.rows_at.Given as goal

abbrev pub invariant-loop-key : goal.invariant-loop-key
invariant-loop-key g l = record {
  looks : LooksAt (is_row_in (take l.key-index l.keys)) l.initial.recorder l.recorder;
  sees : (schema : Schema) → Sees schema g.V.View.cells l.initial.recorder l.recorder (λ now. l.rows.items ≡ rows_at now (take l.key-index l.keys));
}
