-- What an iterator over the parts of a text has still to give.
use Rattle.std.specs.Prelude.{ℕ, List, [], Option, Some, None}
use Rattle.std.specs.Borrow.{Bor}
use Rattle.request_model.specs.Words.{comma, dot, parts_at}
use Rattle.query_families.specs.declared.parts.Separator.{Separator}
use Rattle.query_families.specs.declared.parts.Separator.TheVariants.{Comma, Dot}
use Rattle.query_families.specs.declared.parts.Parts.{Parts}

-- the byte that a separator is
abbrev pub byte_of : Separator → ℕ
byte_of Comma = comma
byte_of Dot = dot

-- the parts of what is left, if anything is
abbrev pub parts_of_rest : ℕ → Option (Bor (List ℕ)) → List (List ℕ)
parts_of_rest separator None = []
parts_of_rest separator (Some rest) = parts_at separator rest.now

-- the parts that are still to come
abbrev pub parts_left : Parts → List (List ℕ)
parts_left parts = parts_of_rest (byte_of parts.separator) parts.rest
