-- Items, first and last ones, and keys of rows.
use Rattle.std.proofs.Common.{arith, ◌≡◌, ℕ, suc, ◌-◌, List, [], ◌∷◌, Bool, true, false, cond, length, Option, Some, None, refl, sym, ap, subst, ◌∙◌, inl, inr}
use Rattle.std.specs.Prelude.{◌&&◌, ◌||◌, slice_get, IfSome}
use Rattle.std.specs.List.{AllByRecursion, filter, last_or}
use Rattle.std.proofs.lemmas.Bool.{or_left, or_right}
use Rattle.ident_rules.specs.declared.key.Key.{Key}
use Rattle.ident_rules.specs.Key.{same_key, key_is, key_itself}
use Rattle.world_cells.specs.declared.rows.Row.{Row}
use Rattle.world_cells.specs.Lists.{IsIn}
use Rattle.store_model.specs.Pages.{first_item, last_item}
use Rattle.store_model.specs.Included.{has_key}
use Rattle.compound_document.specs.Gathering.{keys_in}

pub by_bool : {P : Type 0} (b : Bool) → (b ≡ true → P) → (b ≡ false → P) → P
by_bool true f g = f refl
by_bool false f g = g refl

pub both : (a b : Bool) → a ≡ true → b ≡ true → (a && b) ≡ true
both true b e f = f
both false b e f = cc e

-- ---- first and last

one_less : (n : ℕ) → suc n - 1 ≡ n
one_less n = omega arith

pub last_at : {A : Type 0} (xs : List A) → slice_get xs (length xs - 1) ≡ last_item xs
last_at [] = refl
last_at (x ∷ []) = refl
last_at (x ∷ y ∷ xs) =
    ap (slice_get (x ∷ y ∷ xs)) (one_less (suc (length xs)))
    ∙ ap (slice_get (y ∷ xs)) (sym (one_less (length xs)))
    ∙ last_at (y ∷ xs)

pub first_at : {A : Type 0} (xs : List A) → slice_get xs 0 ≡ first_item xs
first_at [] = refl
first_at (x ∷ xs) = refl

pub last_in : {A : Type 0} (x : A) (xs : List A) (l : A) → last_or (Some x) xs ≡ Some l → IsIn (x ∷ xs) l
last_in x [] l e = inl (cc e)
last_in x (y ∷ xs) l e = inr (last_in y xs l e)

pub all_in : {A : Type 0} (P : A → Type 0) (xs : List A) (x : A) → AllByRecursion P xs → IsIn xs x → P x
all_in P [] x all h = absurd h
all_in P (y ∷ xs) x all (inl is) = subst P is all.0
all_in P (y ∷ xs) x all (inr h) = all_in P xs x all.1 h

-- ---- what passes a test

pub first_passes : {A : Type 0} (p : A → Bool) (xs : List A) → IfSome (first_item (filter p xs)) (λ x. p x ≡ true)
first_passes p [] = tt
first_passes {A} p (x ∷ xs) = by_bool (p x)
    (λ passes. subst (λ (b : Bool). IfSome (first_item (cond b (x ∷ filter p xs) (filter p xs))) (λ y. p y ≡ true)) (sym passes) passes)
    (λ fails. subst (λ (b : Bool). IfSome (first_item (cond b (x ∷ filter p xs) (filter p xs))) (λ y. p y ≡ true)) (sym fails) (first_passes p xs))

last_from : {A : Type 0} (p : A → Bool) (o : Option A) (xs : List A) → IfSome o (λ x. p x ≡ true) → IfSome (last_or o (filter p xs)) (λ x. p x ≡ true)
last_from p o [] h = h
last_from p o (x ∷ xs) h = by_bool (p x)
    (λ passes. subst (λ (b : Bool). IfSome (last_or o (cond b (x ∷ filter p xs) (filter p xs))) (λ y. p y ≡ true)) (sym passes) (last_from p (Some x) xs passes))
    (λ fails. subst (λ (b : Bool). IfSome (last_or o (cond b (x ∷ filter p xs) (filter p xs))) (λ y. p y ≡ true)) (sym fails) (last_from p o xs h))

pub last_passes : {A : Type 0} (p : A → Bool) (xs : List A) → IfSome (last_item (filter p xs)) (λ x. p x ≡ true)
last_passes p xs = last_from p None xs tt

-- ---- keys

-- the row whose key is among those of some rows
pub row_of_key : {P : Type 0} (q : Key) (rows : List Row) → has_key (keys_in rows) q ≡ true → ((row : Row) → IsIn rows row → row.key ≡ q → P) → P
row_of_key q [] e f = cc e
row_of_key q (r ∷ rows) e f = by_bool (same_key q r.key)
    (λ here. f r (inl refl) (sym (key_is q r.key here)))
    (λ other. row_of_key q rows (past (same_key q r.key) (has_key (keys_in rows) q) other e) (λ row h is. f row (inr h) is))
  where
    past : (a b : Bool) → a ≡ false → (a || b) ≡ true → b ≡ true
    past true b f e = cc f
    past false b f e = e

pub has_in : (keys : List Key) (k : Key) → IsIn keys k → has_key keys k ≡ true
has_in [] k h = absurd h
has_in (j ∷ keys) k (inl is) = or_left _ _ (ap (same_key k) is ∙ key_itself k)
has_in (j ∷ keys) k (inr h) = or_right (same_key k j) _ (has_in keys k h)
