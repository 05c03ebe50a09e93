-- Lists of shared items, as contracts see them, with an item taken out or put in.
use Rattle.std.proofs.Common.{◌≡◌, ℕ, zero, suc, ◌+◌, ◌≤◌, List, [], ◌∷◌, ◌++◌, length, map, take, drop, refl, sym, ap, ◌∙◌, arith, append_assoc}
use Rattle.std.specs.List.{take-map, drop-map}
use Rattle.std.proofs.lemmas.List.{map-append, take-append-drop, length-take-le}

module _ {A B : Type 0} (f : A → B) where
  parts : (xs : List A) (i j : ℕ) → map f (take i xs ++ drop j xs) ≡ take i (map f xs) ++ drop j (map f xs)
  parts xs i j = map-append f (take i xs) (drop j xs) ∙ ap (λ ys. ys ++ map f (drop j xs)) (sym (take-map f i xs)) ∙ ap (λ ys. take i (map f xs) ++ ys) (sym (drop-map f j xs))

  pub map_removed : (xs : List A) (i : ℕ) → map f (take i xs ++ drop (suc i) xs) ≡ take i (map f xs) ++ drop (i + 1) (map f xs)
  map_removed xs i = let e : suc i ≡ i + 1 = omega arith in parts xs i (suc i) ∙ ap (λ j. take i (map f xs) ++ drop j (map f xs)) e

  pub map_inserted : (xs : List A) (i : ℕ) (x : A) → map f (take i xs ++ x ∷ drop i xs) ≡ take i (map f xs) ++ f x ∷ drop i (map f xs)
  map_inserted xs i x =
      map-append f (take i xs) (x ∷ drop i xs) ∙ ap (λ ys. ys ++ f x ∷ map f (drop i xs)) (sym (take-map f i xs))
      ∙ ap (λ ys. take i (map f xs) ++ f x ∷ ys) (sym (drop-map f i xs))

-- ---- items put in at a place, from the last to the first

take_front : {A : Type 0} (n : ℕ) (xs ys : List A) → length xs ≡ n → take n (xs ++ ys) ≡ xs
take_front zero [] ys is = refl
take_front (suc n) [] ys is = absurd (omega arith)
take_front zero (x ∷ xs) ys is = absurd (omega arith)
take_front (suc n) (x ∷ xs) ys is = ap (λ zs. x ∷ zs) (take_front n xs ys (omega arith))

drop_front : {A : Type 0} (n : ℕ) (xs ys : List A) → length xs ≡ n → drop n (xs ++ ys) ≡ ys
drop_front zero [] ys is = refl
drop_front (suc n) [] ys is = absurd (omega arith)
drop_front zero (x ∷ xs) ys is = absurd (omega arith)
drop_front (suc n) (x ∷ xs) ys is = drop_front n xs ys (omega arith)

module _ {A : Type 0} (old : List A) (at : ℕ) where
  pub none_put : at ≤ length old → old ≡ take at old ++ ([] ++ drop at old)
  none_put le = sym (take-append-drop at old)

  pub one_put : (done before new : List A) (x : A) → at ≤ length old → before ≡ take at old ++ (done ++ drop at old) → new ≡ take at before ++ x ∷ drop at before → new ≡ take at old ++ ((x ∷ done) ++ drop at old)
  one_put done before new x le is put =
      let long : length (take at old) ≡ at = length-take-le at old le in
      put ∙ ap (λ xs. take at xs ++ x ∷ drop at xs) is ∙ ap (λ xs. xs ++ x ∷ drop at (take at old ++ (done ++ drop at old))) (take_front at (take at old) (done ++ drop at old) long)
      ∙ ap (λ xs. take at old ++ x ∷ xs) (drop_front at (take at old) (done ++ drop at old) long)

pub one_taken : {A B : Type 0} (f : A → B) (all before left : List A) (done : List B) (x : A) → map f all ≡ map f before ++ done → before ≡ left ++ x ∷ [] → map f all ≡ map f left ++ f x ∷ done
one_taken f all before left done x is popped = is ∙ ap (λ xs. map f xs ++ done) popped ∙ ap (λ xs. xs ++ done) (map-append f left (x ∷ [])) ∙ append_assoc (map f left) (f x ∷ []) done

-- items in the place of one
pub put_back : {A : Type 0} (xs made rest new : List A) (at : ℕ) → at ≤ length xs → rest ≡ take at xs ++ drop (at + 1) xs → new ≡ take at rest ++ (made ++ drop at rest) → new ≡ take at xs ++ (made ++ drop (at + 1) xs)
put_back xs made rest new at le taken put =
    let long : length (take at xs) ≡ at = length-take-le at xs le in
    put ∙ ap (λ ys. take at ys ++ (made ++ drop at ys)) taken ∙ ap (λ ys. ys ++ (made ++ drop at (take at xs ++ drop (at + 1) xs))) (take_front at (take at xs) (drop (at + 1) xs) long)
    ∙ ap (λ ys. take at xs ++ (made ++ ys)) (drop_front at (take at xs) (drop (at + 1) xs) long)
