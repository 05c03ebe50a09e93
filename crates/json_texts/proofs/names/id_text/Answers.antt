use Rattle.std.proofs.Common.{◌∙◌, sym}
use Rattle.json_texts.proofs.Escapes.{escape-is_id}
use Rattle.json_texts.proofs.names.id_text.Goals as goal

pub returns : goal.returns
returns c = c.bytes.ensures.bytes ∙ sym (escape-is_id c.args.id.now c.bytes.ensures.id)
