use Rattle.std.proofs.lemmas.Str.{is_utf8-from_IsUtf8}
use Rattle.operation_reader.proofs.refs.lid_text.Goals as goal

pub returns-clause-utf8 : goal.returns-clause-utf8
returns-clause-utf8 c = is_utf8-from_IsUtf8 c.args.lid.now c.utf8.lid
