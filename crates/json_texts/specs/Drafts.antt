-- A text that is put together piece by piece, until memory runs out.
use Rattle.std.specs.Prelude.{◌≡◌, ℕ, List, ◌++◌, IsSome}
use Rattle.std.specs.Option.{option_map}
use Rattle.std.specs.declared.option.Option.{Option}

-- what contracts see of a draft: its text, and none where memory ran out
abbrev pub DraftText : Type 0
DraftText = Option (List ℕ)

-- a call that goes on with a text by a piece: unless memory ran out, now or before, the text is what it was and the piece
pub record Adds (before now : Option (List ℕ)) (piece : List ℕ) : Type 0 where
  pub grown : IsSome now → now ≡ option_map (λ text. text ++ piece) before

-- calls that have gone on with a text so far: unless memory ran out, what is left makes of it what the whole makes of the text at
-- the start
pub record Leaves (start now : Option (List ℕ)) (left whole : List ℕ) : Type 0 where
  pub rest : IsSome now → option_map (λ text. text ++ left) now ≡ option_map (λ text. text ++ whole) start
