use Rattle.std.proofs.Common.{◌≡◌, drop}
use Rattle.http_model.specs.Framings.{values_of, first_value}
use Rattle.http_framing.proofs.fields.first_named.Given as goal

abbrev pub invariant-loop-field : goal.invariant-loop-field
invariant-loop-field l = first_value (values_of l.name (drop l.field-index l.fields)) ≡ first_value (values_of l.name l.fields)
