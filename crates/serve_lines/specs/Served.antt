-- The line with which `serve` ends (of this project).
use Rattle.std.specs.Prelude.{ℕ, List, [], ◌∷◌, ◌++◌, codes, decimal}
use Rattle.serve_lines.specs.declared.served.Served.{Served}

-- `sessions A requests B entries C` and a line feed
abbrev pub served_text : Served → List ℕ
served_text s =
    (((((codes "sessions " ++ decimal s.sessions) ++ codes " requests ") ++ decimal s.requests) ++ codes " entries ") ++ decimal s.entries) ++ 10 ∷ []
