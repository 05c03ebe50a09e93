-- What an iterator over the pieces of a text has still to give.
use Rattle.std.specs.Prelude.{◌≡◌, ◌+◌, ℕ, List, [], ◌∷◌, Option, Some, None, take, drop}
use Rattle.std.specs.Borrow.{Bor}
use Rattle.request_model.specs.declared.forms.Quoting.{Quoting}
use Rattle.request_model.specs.declared.forms.Quoting.TheVariants.{Outside}
use Rattle.request_model.specs.MediaTypes.{after_byte, pieces_from}
use Rattle.media_types.specs.declared.pieces.Pieces.{Pieces}

-- the pieces of what is left, if anything is
abbrev pub pieces_of_rest : Quoting → ℕ → Option (Bor (List ℕ)) → List (List ℕ)
pieces_of_rest at separator None = []
pieces_of_rest at separator (Some rest) = pieces_from at separator rest.now

-- the pieces that are still to come
abbrev pub pieces_left : Pieces → List (List ℕ)
pieces_left pieces = pieces_of_rest pieces.at pieces.separator pieces.rest

-- at this place stands the first separator outside of quoted strings
abbrev pub IsCutAt : Quoting → ℕ → List ℕ → ℕ → Type 0
IsCutAt first separator text place = pieces_from first separator text ≡ take place text ∷ pieces_from (after_byte Outside separator) separator (drop (place + 1) text)
