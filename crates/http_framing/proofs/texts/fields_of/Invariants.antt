use Rattle.std.proofs.Common.{◌≡◌, map, take}
use Rattle.httparse.specs.Spans.{header_bytes}
use Rattle.http_model.specs.Messages.{field_parts}
use Rattle.http_framing.proofs.texts.fields_of.Given as goal

abbrev pub invariant-loop-header : goal.invariant-loop-header
invariant-loop-header l = map field_parts l.fields.items ≡ map (header_bytes l.bytes) (take l.header-index l.headers)
