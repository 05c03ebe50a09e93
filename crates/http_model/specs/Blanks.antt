-- A test of empty lines (RFC 9112, section 2.2).
use Rattle.std.specs.Prelude.{ℕ, Bool, true, false, not, ◌&&◌, ◌==◌, List, [], ◌∷◌, if◌then◌else◌}

-- whether the bytes are empty lines alone, where a CR stands before them or none does
abbrev pub empty_lines : Bool → List ℕ → Bool
empty_lines cr [] = not cr
empty_lines cr (b ∷ bytes) = if b == 10 then empty_lines false bytes else ((b == 13 && not cr) && empty_lines true bytes)
