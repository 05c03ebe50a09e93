-- A test of bytes that are no whole head: whether what they have of a target is visible ASCII (of this project).
use Rattle.std.specs.Prelude.{ℕ, Bool, true, ◌&&◌, ◌||◌, ◌==◌, List, [], ◌∷◌, if◌then◌else◌}
use Rattle.http_model.specs.Heads.{is_visible}

-- CR or LF
abbrev pub is_line_byte : ℕ → Bool
is_line_byte b = (b == 13) || (b == 10)

-- the bytes from the first that is no CR or LF
abbrev pub skip_lines : List ℕ → List ℕ
skip_lines [] = []
skip_lines (b ∷ bytes) = if is_line_byte b then skip_lines bytes else b ∷ bytes

-- the bytes behind the first space
abbrev pub after_space : List ℕ → List ℕ
after_space [] = []
after_space (b ∷ bytes) = if b == 32 then bytes else after_space bytes

-- each byte before the first space is visible
abbrev pub visible_to_space : List ℕ → Bool
visible_to_space [] = true
visible_to_space (b ∷ bytes) = (b == 32) || (is_visible b && visible_to_space bytes)

-- the target so far has visible bytes alone
abbrev pub has_visible_target : List ℕ → Bool
has_visible_target bytes = visible_to_space (after_space (skip_lines bytes))
