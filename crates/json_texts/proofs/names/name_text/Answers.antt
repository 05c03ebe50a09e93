use Rattle.std.proofs.Common.{◌∙◌, sym}
use Rattle.json_texts.proofs.Escapes.{escape-is_name}
use Rattle.json_texts.proofs.names.name_text.Goals as goal

pub returns : goal.returns
returns c = c.bytes.ensures.bytes ∙ sym (escape-is_name c.args.name.now c.bytes.ensures.name)
