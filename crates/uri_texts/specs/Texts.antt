-- Tests of texts (of this project).
use Rattle.std.specs.Prelude.{ℕ, Bool, nat_lt, List}
use Rattle.std.specs.List.{list_all}

-- each byte is of ASCII
abbrev pub is_ascii_text : List ℕ → Bool
is_ascii_text text = list_all (λ b. nat_lt b 128) text
