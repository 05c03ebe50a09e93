-- Counts of steps.
use Rattle.std.specs.Prelude.{ℕ, ◌+◌, ◌-◌, ◌^◌, ◌≤◌, min}
use Rattle.std.proofs.Common.{arith}

-- one more, and no further than the greatest u64
abbrev pub counted : ℕ → ℕ
counted n = min (n + 1) (2 ^ 64 - 1)

-- at most one more
pub counted_once : (n : ℕ) → counted n ≤ n + 1
counted_once n = omega arith
