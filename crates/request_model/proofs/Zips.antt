-- Lists that go together, and lists each of whose items is of a kind.
use Rattle.std.specs.Prelude.{ℕ, Bool, true, false, List, [], ◌∷◌, map, filter, length, Some, slice_get, zero, suc, ◌<◌}
use Rattle.std.specs.List.{AllZip, AllByRecursion, list_all, position}
use Rattle.std.proofs.Common.{◌≡◌, refl, sym, arith, get_or, cond}
use Rattle.std.proofs.lemmas.Option.{slice_get-get_or}
use Rattle.std.proofs.lemmas.List.Quantifiers.{position-Some}

module _ {X Y : Type 0} where
  pub zip-length : (R : X → Y → Type 0) (xs : List X) (ys : List Y) → AllZip R xs ys → length ys ≡ length xs
  zip-length R [] [] z = refl
  zip-length R [] (y ∷ ys) z = absurd z
  zip-length R (x ∷ xs) [] z = absurd z
  zip-length R (x ∷ xs) (y ∷ ys) z = let rest = zip-length R xs ys z.1 in omega (arith, rest)

  -- what holds of two items that go together
  pub zip-into : (R S : X → Y → Type 0) (xs : List X) (ys : List Y) → ((x : X) (y : Y) → R x y → S x y) → AllZip R xs ys → AllZip S xs ys
  zip-into R S [] [] f z = tt
  zip-into R S [] (y ∷ ys) f z = absurd z
  zip-into R S (x ∷ xs) [] f z = absurd z
  zip-into R S (x ∷ xs) (y ∷ ys) f z = (f x y z.0, zip-into R S xs ys f z.1)

  -- what holds of each item on the right, by what holds of each on the left
  pub zip-right : (P : X → Type 0) (R : X → Y → Type 0) (Q : Y → Type 0) (xs : List X) (ys : List Y) → ((x : X) (y : Y) → P x → R x y → Q y) → AllByRecursion P xs → AllZip R xs ys → AllByRecursion Q ys
  zip-right P R Q [] [] f a z = tt
  zip-right P R Q [] (y ∷ ys) f a z = absurd z
  zip-right P R Q (x ∷ xs) [] f a z = absurd z
  zip-right P R Q (x ∷ xs) (y ∷ ys) f a z = (f x y a.0 z.0, zip-right P R Q xs ys f a.1 z.1)

  -- equal parts of items that go together
  pub zip-same : {Z : Type 0} (R : X → Y → Type 0) (g : X → Z) (h : Y → Z) (xs : List X) (ys : List Y) → ((x : X) (y : Y) → R x y → h y ≡ g x) → AllZip R xs ys → map h ys ≡ map g xs
  zip-same R g h [] [] f z = refl
  zip-same R g h [] (y ∷ ys) f z = absurd z
  zip-same R g h (x ∷ xs) [] f z = absurd z
  zip-same {Z} R g h (x ∷ xs) (y ∷ ys) f z = by_parts (f x y z.0) (zip-same R g h xs ys f z.1) where
    by_parts : h y ≡ g x → map h ys ≡ map g xs → (h y ∷ map h ys) ≡ (g x ∷ map g xs)
    by_parts e es = cc (e, es)

module _ {X : Type 0} where
  pub all-always : (P : X → Type 0) (xs : List X) → ((x : X) → P x) → AllByRecursion P xs
  all-always P [] f = tt
  all-always P (x ∷ xs) f = (f x, all-always P xs f)

  pub all-into : (P Q : X → Type 0) (xs : List X) → ((x : X) → P x → Q x) → AllByRecursion P xs → AllByRecursion Q xs
  all-into P Q [] f a = tt
  all-into P Q (x ∷ xs) f a = (f x a.0, all-into P Q xs f a.1)

  pub all-filter : (P : X → Type 0) (test : X → Bool) (xs : List X) → AllByRecursion P xs → AllByRecursion P (filter test xs)
  all-filter P test [] a = tt
  all-filter P test (x ∷ xs) a = by_test (test x) (all-filter P test xs a.1) where
    by_test : (b : Bool) → AllByRecursion P (filter test xs) → AllByRecursion P (cond b (x ∷ filter test xs) (filter test xs))
    by_test true rest = (a.0, rest)
    by_test false rest = rest

  pub all-list_all : (test : X → Bool) (xs : List X) → AllByRecursion (λ x. test x ≡ true) xs → list_all test xs ≡ true
  all-list_all test [] a = refl
  all-list_all test (x ∷ xs) a = rw a.0 (all-list_all test xs a.1)

  pub all-at : (P : X → Type 0) (xs : List X) (i : ℕ) (x : X) → AllByRecursion P xs → slice_get xs i ≡ Some x → P x
  all-at P [] i x a e = cc e
  all-at P (y ∷ ys) zero x a e = let same : y ≡ x = cc e in rw (sym same) a.0
  all-at P (y ∷ ys) (suc i) x a e = all-at P ys i x a.1 e

  -- the item at the first place where a test passes
  pub position-found : (test : X → Bool) (xs : List X) (i : ℕ) → position test xs ≡ Some i → (x : X) × (slice_get xs i ≡ Some x) × (test x ≡ true) × (i < length xs)
  position-found test [] i e = cc e
  position-found test (x ∷ xs) i e =
      let found = position-Some test (x ∷ xs) i x e in
      (get_or (x ∷ xs) i x, slice_get-get_or (x ∷ xs) i x found.0, found.1, found.0)
