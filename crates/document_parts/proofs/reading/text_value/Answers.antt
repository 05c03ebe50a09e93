use Rattle.document_parts.proofs.Texts.{text-fits}
use Rattle.document_parts.proofs.reading.text_value.Goals as goal

pub returns-in_ok-from_str-in-Text : goal.returns-in_ok-from_str-in-Text
returns-in_ok-from_str-in-Text c =
    text-fits c.args.form c.args.text.now c.in_ok-from_str-in-Text.field-0 c.in-Text.is c.in_ok-from_str-in-Text.ensures c.if-text-le-TEXT_LIMIT.true c.utf8.text
