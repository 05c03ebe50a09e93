-- The words of `workload` behind the program's name (of this project).
use Rattle.std.specs.Prelude.{ℕ, Bool, false, ◌-◌, ◌^◌, List, [], ◌∷◌, codes, if◌then◌else◌, Option, Some, None}
use Rattle.std.specs.Str.{bytes_eq}
use Rattle.decimal_words.specs.Words.{decimal_word}
use Rattle.workload_command.specs.declared.words.WorkloadWords.{WorkloadWords}
use Rattle.workload_command.specs.declared.words.TheConstants.{REQUEST_LIMIT}

-- the first word is `workload`
abbrev pub is_workload : List (List ℕ) → Bool
is_workload [] = false
is_workload (word ∷ words) = bytes_eq word (codes "workload")

abbrev pub both_numbers : Option ℕ → Option ℕ → Option WorkloadWords
both_numbers (Some requests) (Some seed) = Some (record { requests = requests; seed = seed })
both_numbers (Some requests) None = None
both_numbers None seed = None

-- both numbers, where both are within their limits
abbrev pub workload_numbers : List ℕ → List ℕ → Option WorkloadWords
workload_numbers requests seed = both_numbers (decimal_word requests 1 REQUEST_LIMIT) (decimal_word seed 0 (2 ^ 64 - 1))

-- `workload N SEED`
abbrev pub workload_words : List (List ℕ) → Option WorkloadWords
workload_words (word ∷ requests ∷ seed ∷ []) = if bytes_eq word (codes "workload") then workload_numbers requests seed else None
workload_words words = None
