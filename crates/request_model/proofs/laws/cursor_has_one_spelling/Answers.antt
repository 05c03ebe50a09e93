use Rattle.request_model.proofs.CursorFits.{place_of_cursor-spelling, place_of_cursor-forms}
use Rattle.request_model.proofs.laws.cursor_has_one_spelling.Goals as goal

pub returns : goal.returns
returns c = record { spelling = place_of_cursor-spelling; forms = place_of_cursor-forms }
