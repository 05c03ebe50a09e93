use Rattle.cursor_codec.proofs.Exact.{exact_if_read}
use Rattle.cursor_codec.proofs.reading.read_cursor.Goals as goal

pub returns-clause-exact : goal.returns-clause-exact
returns-clause-exact c =
    exact_if_read c.args.forms.now c.args.text.now (c.cursor_has_one_spelling.ensures.spelling c.args.forms.now c.args.text.now) (c.cursor_has_one_spelling.ensures.forms c.args.forms.now c.args.text.now) (c.cursor_is_read_back.ensures c.args.forms.now) c.place_of_cursor.result c.place_of_cursor.ensures
