-- Numbers that a seed draws (of this project).
use Rattle.std.specs.Prelude.{ℕ, ◌+◌, ◌*◌, ◌/◌, ◌%◌, ◌^◌}

-- the state after a draw
abbrev pub next_state : ℕ → ℕ
next_state state = (state * 6364136223846793005 + 1442695040888963407) % 2 ^ 64

-- the number below another that a draw gives which led to this state
abbrev pub number_at : ℕ → ℕ → ℕ
number_at state below = (state / 2 ^ 33) % below

-- the number that is drawn next
abbrev pub drawn : ℕ → ℕ → ℕ
drawn state below = number_at (next_state state) below
