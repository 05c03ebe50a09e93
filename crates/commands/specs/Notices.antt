-- What is printed for `--help` and for `--version`.
use Rattle.std.specs.Prelude.{ℕ, List, [], ◌∷◌, ◌++◌, codes, if◌then◌else◌, Option, Some, None}
use Rattle.std.specs.Str.{bytes_eq}

abbrev pub help_text : List ℕ
help_text =
    codes "usage: jsonapid pipe [PATH]" ++ 10
    ∷ codes "       jsonapid serve PATH ADDRESS WORKERS QUOTA" ++ 10
    ∷ codes "       jsonapid replay" ++ 10
    ∷ codes "       jsonapid workload N SEED" ++ 10 ∷ 10
    ∷ codes "pipe serves one connection of HTTP/1.1 from standard input to standard output, over a store that begins empty: of notes, or of the types of the schema file PATH." ++ 10
    ∷ codes "serve serves the types of the schema file PATH at a socket, on one store that begins empty: WORKERS connections at a time, 1 to 64, until each worker has served QUOTA of them, 1 to 1000000." ++ 10
    ∷ codes "replay reads a script from standard input, takes its steps over connections that share one store, and reports the history that they made." ++ 10
    ∷ codes "workload makes ten people and N requests that SEED draws, 1 to 100000, serves them over a blog that begins empty, and prints what was counted." ++ 10 ∷ []

abbrev pub version_text : List ℕ
version_text = codes "jsonapid 0.1.0" ++ 10 ∷ []

-- where one of the two is the only word
abbrev pub notice_for : List (List ℕ) → Option (List ℕ)
notice_for (word ∷ []) = if bytes_eq word (codes "--help") then Some help_text else (if bytes_eq word (codes "--version") then Some version_text else None)
notice_for words = None
