use Rattle.request_model.proofs.CursorReadBack.{cursor-back}
use Rattle.request_model.proofs.laws.cursor_is_read_back.Goals as goal

pub returns : goal.returns
returns c = cursor-back c.rendered_is_read_back.ensures c.rendered_is_utf8.ensures c.utf8_is_bytes.ensures
