use Rattle.std.proofs.Common.{◌≡◌, take, drop}
use Rattle.request_model.specs.MediaTypes.{pieces_from}
use Rattle.request_model.specs.Pieces.{ahead}
use Rattle.media_types.proofs.pieces.cut_at.Given as goal

abbrev pub invariant-loop-place : goal.invariant-loop-place
invariant-loop-place l = pieces_from l.fn.first l.separator l.text ≡ ahead (take l.place l.text) (pieces_from l.at l.separator (drop l.place l.text))
