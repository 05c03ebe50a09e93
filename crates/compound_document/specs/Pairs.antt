-- Where pairs stand among those in byte order of names.
use Rattle.std.specs.Prelude.{ℕ, suc, if◌then◌else◌, List, [], ◌∷◌}
use Rattle.std.specs.Cmp.Lexicographic.{slice_cmp}
use Rattle.std.specs.Ordering.{nat_cmp, is_gt}
use Rattle.store_model.specs.Document.{is_cursor, insert_pair}

-- before the first whose name is not less
abbrev pub place_of_pair : List ℕ → List (List ℕ × List ℕ) → ℕ
place_of_pair name [] = 0
place_of_pair name (q ∷ pairs) = if is_gt (slice_cmp nat_cmp name q.0) then suc (place_of_pair name pairs) else 0

-- the pairs with this one, if it is no cursor
abbrev pub kept_pair : List ℕ × List ℕ → List (List ℕ × List ℕ) → List (List ℕ × List ℕ)
kept_pair p pairs = if is_cursor p.0 then pairs else insert_pair p pairs
