use Rattle.std.proofs.Common.{◌≡◌, ◌+◌, ◌≤◌, length, drop}
use Rattle.http_model.specs.Framings.{values_of}
use Rattle.http_framing.proofs.fields.count_named.Given as goal

abbrev pub invariant-loop-field : goal.invariant-loop-field
invariant-loop-field l = record {
  few : l.count ≤ l.field-index;
  rest : l.count + length (values_of l.name (drop l.field-index l.fields)) ≡ length (values_of l.name l.fields);
}
