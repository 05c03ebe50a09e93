-- The words of `serve` behind the program's name (of this project).
use Rattle.std.specs.Prelude.{ℕ, List, [], ◌∷◌, codes, if◌then◌else◌, Option, Some, None}
use Rattle.std.specs.Str.{bytes_eq}
use Rattle.decimal_words.specs.Words.{decimal_word}
use Rattle.serve_lines.specs.declared.words.ServeWords.{ServeWords}
use Rattle.serve_lines.specs.declared.words.TheConstants.{WORKER_LIMIT}
use Rattle.connection_workers.specs.declared.workers.TheConstants.{QUOTA_LIMIT}

abbrev pub both_numbers : Option ℕ → Option ℕ → Option ServeWords
both_numbers (Some workers) (Some quota) = Some (record { workers = workers; quota = quota })
both_numbers (Some workers) None = None
both_numbers None quota = None

-- both numbers, where both are within their limits
abbrev pub serve_numbers : List ℕ → List ℕ → Option ServeWords
serve_numbers workers quota = both_numbers (decimal_word workers 1 WORKER_LIMIT) (decimal_word quota 1 QUOTA_LIMIT)

-- `serve PATH ADDRESS WORKERS QUOTA`
abbrev pub serve_words : List (List ℕ) → Option ServeWords
serve_words (word ∷ path ∷ address ∷ workers ∷ quota ∷ []) = if bytes_eq word (codes "serve") then serve_numbers workers quota else None
serve_words words = None

abbrev pub serve_path : List (List ℕ) → Option (List ℕ)
serve_path (word ∷ path ∷ address ∷ workers ∷ quota ∷ []) = Some path
serve_path words = None

abbrev pub serve_address : List (List ℕ) → Option (List ℕ)
serve_address (word ∷ path ∷ address ∷ workers ∷ quota ∷ []) = Some address
serve_address words = None
