-- Entries by their owners, worked; an entry is here its owner and a mark.
use Rattle.std.specs.Prelude.{◌≡◌, ℕ, List, [], ◌∷◌, refl}
use Rattle.ident_rules.specs.Owned.{entries_by}

abbrev owner : ℕ × ℕ → ℕ
owner e = e.0

abbrev three : List (ℕ × ℕ)
three = (7, 1) ∷ (8, 2) ∷ (7, 3) ∷ []

the_entries_of_seven : entries_by owner (7 ∷ []) three ≡ (7, 1) ∷ (7, 3) ∷ []
the_entries_of_seven = refl

the_entries_of_seven_and_eight : entries_by owner (8 ∷ 7 ∷ []) three ≡ three
the_entries_of_seven_and_eight = refl

the_entries_of_nobody : entries_by owner [] three ≡ []
the_entries_of_nobody = refl
