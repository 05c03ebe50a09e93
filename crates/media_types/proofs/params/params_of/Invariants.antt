use Rattle.std.proofs.Common.{◌≡◌, ◌++◌}
use Rattle.std.specs.Prelude.{option_map}
use Rattle.media_types.specs.ParamPieces.{params_of}
use Rattle.media_types.specs.PiecesLeft.{pieces_left}
use Rattle.media_types.proofs.params.params_of.Given as goal

abbrev pub invariant-loop-piece : goal.invariant-loop-piece
invariant-loop-piece l = params_of (pieces_left l.fn.pieces) ≡ option_map (λ r. l.params.items ++ r) (params_of (pieces_left l.piece-iterator))
