use Rattle.std.proofs.Common.{◌≡◌, ◌||◌}
use Rattle.request_model.specs.Words.{comma, is_any}
use Rattle.request_model.specs.MediaTypes.{unquoted_pieces}
use Rattle.media_types.specs.Elements.{some_good, types_of}
use Rattle.media_types.specs.PiecesLeft.{pieces_left}
use Rattle.media_types.proofs.accepting.accepts.Given as goal

abbrev pub invariant-loop-element : goal.invariant-loop-element
invariant-loop-element l =
    let all = types_of (unquoted_pieces comma l.text) in
    let left = types_of (pieces_left l.element-iterator) in
    (some_good all ≡ some_good left) × (is_any all ≡ (l.some_refused || is_any left))
