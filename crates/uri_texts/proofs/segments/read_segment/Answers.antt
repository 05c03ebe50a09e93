use Rattle.std.proofs.Common.{Some, IsUtf8, ap, sym, ◌∙◌, subst}
use Rattle.percent_encoding.specs.Percent.{percent_decode}
use Rattle.uri_texts.proofs.SegmentLemmas.{segment-text, segment-none}
use Rattle.uri_texts.proofs.segments.read_segment.Goals as goal

pub returns-in-Ok-clause-text : goal.returns-in-Ok-clause-text
returns-in-Ok-clause-text c =
    let decoded = c.percent_decode.ensures.bytes ∙ ap percent_decode c.as_bytes.ensures.value in
    ap Some (c.in-Ok.ensures.value ∙ decoded) ∙ segment-text c.args.segment.now (subst IsUtf8 decoded c.in-Ok.ensures.ok_only_if_utf8)

pub returns-in-Err-Utf8-clause-text : goal.returns-in-Err-Utf8-clause-text
returns-in-Err-Utf8-clause-text c =
    let decoded = c.percent_decode.ensures.bytes ∙ ap percent_decode c.as_bytes.ensures.value in
    segment-none c.args.segment.now (λ utf8. let memory = c.in-Err-Utf8.ensures.utf8 (subst IsUtf8 (sym decoded) utf8) in cc (sym c.in-Err-Utf8.field-0-is ∙ memory))
