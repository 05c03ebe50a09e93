-- Texts with a byte between them, one after another.
use Rattle.std.proofs.Common.{◌≡◌, List, ℕ, [], ◌∷◌, ◌++◌, sym, ap, append-nil}
use Rattle.std.specs.List.{flat_map, join_with_byte}

pub join-is : (c : ℕ) (x : List ℕ) (xs : List (List ℕ)) → join_with_byte c (x ∷ xs) ≡ x ++ flat_map (λ y. c ∷ y) xs
join-is c x [] = sym (append-nil x)
join-is c x (y ∷ ys) = ap (λ l. x ++ (c ∷ l)) (join-is c y ys)
