use Rattle.std.proofs.Common.{◌≡◌, drop}
use Rattle.http_model.specs.Framings.{values_of, parts_of, last_part, or_text}
use Rattle.http_framing.proofs.fields.last_part_named.Given as goal

abbrev pub invariant-loop-field : goal.invariant-loop-field
invariant-loop-field l = or_text (last_part (parts_of (values_of l.name (drop l.field-index l.fields)))) l.found ≡ last_part (parts_of (values_of l.name l.fields))
