-- Worked examples of the words.
use Rattle.std.specs.Prelude.{◌≡◌, refl, [], ◌∷◌, codes, Some, None}
use Rattle.serve_lines.specs.Words.{serve_address, serve_path, serve_words}

two : serve_words (codes "serve" ∷ codes "s" ∷ codes "a" ∷ codes "2" ∷ codes "01" ∷ []) ≡ Some (record { workers = 2; quota = 1 })
two = refl

none : serve_words (codes "serve" ∷ codes "s" ∷ codes "a" ∷ codes "0" ∷ codes "1" ∷ []) ≡ None
none = refl

many : serve_words (codes "serve" ∷ codes "s" ∷ codes "a" ∷ codes "65" ∷ codes "1" ∷ []) ≡ None
many = refl

no_quota : serve_words (codes "serve" ∷ codes "s" ∷ codes "a" ∷ codes "1" ∷ codes "0" ∷ []) ≡ None
no_quota = refl

few : serve_words (codes "serve" ∷ codes "s" ∷ codes "a" ∷ codes "1" ∷ []) ≡ None
few = refl

other : serve_words (codes "pipe" ∷ codes "s" ∷ codes "a" ∷ codes "1" ∷ codes "1" ∷ []) ≡ None
other = refl

path : serve_path (codes "serve" ∷ codes "s" ∷ codes "a" ∷ codes "1" ∷ codes "1" ∷ []) ≡ Some (codes "s")
path = refl

address : serve_address (codes "serve" ∷ codes "s" ∷ codes "a" ∷ codes "1" ∷ codes "1" ∷ []) ≡ Some (codes "a")
address = refl
