-- Tests, options and lists.
use Rattle.std.proofs.lemmas.Bool.{or_cases}
use Rattle.std.proofs.Common.{◌≡◌, ℕ, List, [], ◌∷◌, ◌++◌, Bool, true, false, refl, sym, ap, subst, ◌∙◌, Some, None, inl, inr, zero, suc}
use Rattle.std.specs.Prelude.{T, ◌||◌, ◌&&◌, ◌⊎◌, not, cond, map, slice_get, slice_set, get_or}
use Rattle.std.specs.Option.{option_map_or}
use Rattle.std.specs.declared.cmp.Ordering.{Ordering}
use Rattle.std.specs.Ordering.{is_lt}
use Rattle.std.specs.FinMap.Entries.{is_sorted, below_all}
use Rattle.store_model.specs.Laws.{Pairwise}
use Rattle.std.specs.List.{AllByRecursion, AllZip, list_any, flat_map, filter}
use Rattle.std.proofs.lemmas.List.Folds.{list_any-append}
use Rattle.store_model.specs.LinkLaws.{T_and, below_in}
use Rattle.world_cells.specs.Lists.{IsIn}

-- ---- tests

pub not_is_false : (b : Bool) → not b ≡ false → b ≡ true
not_is_false true e = refl
not_is_false false e = cc

pub not_is_true : (b : Bool) → not b ≡ true → b ≡ false
not_is_true true e = cc
not_is_true false e = refl

pub true_is_not_false : true ≡ false → ⊥
true_is_not_false e = cc

pub not_true : (b : Bool) → (b ≡ true → ⊥) → not b ≡ true
not_true true h = absurd (h refl)
not_true false h = refl

pub false_or_true : (b : Bool) → (b ≡ true) ⊎ (b ≡ false)
false_or_true true = inl refl
false_or_true false = inr refl

-- ---- options

pub same_Some : {A : Type 0} (x y : A) → Some x ≡ Some y → x ≡ y
same_Some x y e = ap (λ o. option_map_or (λ z. z) o x) e

-- ---- members of lists

pub one_passes : {A : Type 0} (p : A → Bool) (xs : List A) → list_any p xs ≡ true → (x : A) × IsIn xs x × (p x ≡ true)
one_passes p [] e = cc
one_passes p (x ∷ xs) e = elim (or_cases (p x) (list_any p xs) e) [
  | inl here ↦ (x, inl refl, here)
  | inr later ↦ let one = one_passes p xs later in (one.0, inr one.1, one.2)
]

pub any_flat_map : {A B : Type 0} (p : B → Bool) (f : A → List B) (xs : List A) → list_any p (flat_map f xs) ≡ list_any (λ x. list_any p (f x)) xs
any_flat_map p f [] = refl
any_flat_map p f (x ∷ xs) = list_any-append p (f x) (flat_map f xs) ∙ ap (λ b. list_any p (f x) || b) (any_flat_map p f xs)

pub in_left : {A : Type 0} (xs ys : List A) (x : A) → IsIn xs x → IsIn (xs ++ ys) x
in_left [] ys x among = elim among [ ]
in_left (y ∷ xs) ys x (inl is) = inl is
in_left (y ∷ xs) ys x (inr among) = inr (in_left xs ys x among)

pub in_right : {A : Type 0} (xs ys : List A) (x : A) → IsIn ys x → IsIn (xs ++ ys) x
in_right [] ys x among = among
in_right (y ∷ xs) ys x among = inr (in_right xs ys x among)

pub in_append : {A : Type 0} (xs ys : List A) (x : A) → IsIn (xs ++ ys) x → IsIn xs x ⊎ IsIn ys x
in_append [] ys x among = inr among
in_append (y ∷ xs) ys x (inl is) = inl (inl is)
in_append (y ∷ xs) ys x (inr among) = elim (in_append xs ys x among) [ inl left ↦ inl (inr left) | inr right ↦ inr right ]

pub in_map : {A B : Type 0} (f : A → B) (xs : List A) (x : A) → IsIn xs x → IsIn (map f xs) (f x)
in_map f [] x among = elim among [ ]
in_map f (y ∷ xs) x (inl is) = inl (ap f is)
in_map f (y ∷ xs) x (inr among) = inr (in_map f xs x among)

pub from_map : {A B : Type 0} (f : A → B) (xs : List A) (y : B) → IsIn (map f xs) y → (x : A) × IsIn xs x × (f x ≡ y)
from_map f [] y among = elim among [ ]
from_map f (x ∷ xs) y (inl is) = (x, inl refl, is)
from_map f (x ∷ xs) y (inr among) = let one = from_map f xs y among in (one.0, inr one.1, one.2)

-- an item that passes stays
pub in_filter : {A : Type 0} (p : A → Bool) (xs : List A) (x : A) → IsIn xs x → p x ≡ true → IsIn (filter p xs) x
in_filter p [] x among e = among
in_filter p (y ∷ xs) x (inl is) e = subst (λ b. IsIn (cond b (y ∷ filter p xs) (filter p xs)) x) (sym (ap p is ∙ e)) (inl is)
in_filter p (y ∷ xs) x (inr among) e =
    elim (p y) as (λ b. IsIn (cond b (y ∷ filter p xs) (filter p xs)) x) [ true ↦ inr (in_filter p xs x among e) | false ↦ in_filter p xs x among e ]

-- what stays was there, and passes
pub from_filter : {A : Type 0} (p : A → Bool) (xs : List A) (x : A) → IsIn (filter p xs) x → IsIn xs x × (p x ≡ true)
from_filter p [] x among = elim among [ ]
from_filter p (y ∷ xs) x among =
    elim (p y) as (λ b. p y ≡ b → IsIn (cond b (y ∷ filter p xs) (filter p xs)) x → IsIn (y ∷ xs) x × (p x ≡ true)) [
      | true ↦ λ e among. elim among [
        | inl is ↦ (inl is, ap p (sym is) ∙ e)
        | inr later ↦ let rest = from_filter p xs x later in (inr rest.0, rest.1)
      ]
      | false ↦ λ e among. let rest = from_filter p xs x among in (inr rest.0, rest.1)
    ] refl among

pub all_in : {A : Type 0} (P : A → Type 0) (xs : List A) → ((x : A) → IsIn xs x → P x) → AllByRecursion P xs
all_in P [] each = tt
all_in P (x ∷ xs) each = (each x (inl refl), all_in P xs (λ y among. each y (inr among)))

pub in_all : {A : Type 0} (P : A → Type 0) (xs : List A) (x : A) → AllByRecursion P xs → IsIn xs x → P x
in_all P [] x all among = elim among [ ]
in_all P (y ∷ xs) x all (inl is) = subst P is all.0
in_all P (y ∷ xs) x all (inr among) = in_all P xs x all.1 among

-- ---- lists side by side

pub all_zip_set : {A B : Type 0} (P : A → B → Type 0) (xs : List A) (ys : List B) (i : ℕ) (y : B) → AllZip P xs ys → ((x : A) → slice_get xs i ≡ Some x → P x y) → AllZip P xs (slice_set ys i y)
all_zip_set P [] [] i y h new = h
all_zip_set P [] (b ∷ ys) i y h new = absurd h
all_zip_set P (a ∷ xs) [] i y h new = absurd h
all_zip_set P (a ∷ xs) (b ∷ ys) zero y h new = (new a refl, h.1)
all_zip_set P (a ∷ xs) (b ∷ ys) (suc i) y h new = (h.0, all_zip_set P xs ys i y h.1 new)

pub all_zip_get : {A B : Type 0} (P : A → B → Type 0) (xs : List A) (ys : List B) (i : ℕ) (d : B) (x : A) → AllZip P xs ys → slice_get xs i ≡ Some x → P x (get_or ys i d)
all_zip_get P [] [] i d x h e = cc
all_zip_get P [] (b ∷ ys) i d x h e = absurd h
all_zip_get P (a ∷ xs) [] i d x h e = absurd h
all_zip_get P (a ∷ xs) (b ∷ ys) zero d x h e = subst (λ a. P a b) (same_Some a x e) h.0
all_zip_get P (a ∷ xs) (b ∷ ys) (suc i) d x h e = all_zip_get P xs ys i d x h.1 e

pub all_zip_past : {A B : Type 0} (P : A → B → Type 0) (xs : List A) (ys : List B) (i : ℕ) (d : B) → AllZip P xs ys → slice_get xs i ≡ None → get_or ys i d ≡ d
all_zip_past P [] [] i d h e = refl
all_zip_past P [] (b ∷ ys) i d h e = absurd h
all_zip_past P (a ∷ xs) [] i d h e = absurd h
all_zip_past P (a ∷ xs) (b ∷ ys) zero d h e = cc
all_zip_past P (a ∷ xs) (b ∷ ys) (suc i) d h e = all_zip_past P xs ys i d h.1 e

pub all_zip_weaker : {A B : Type 0} (P Q : A → B → Type 0) → ((x : A) (y : B) → P x y → Q x y) → (xs : List A) (ys : List B) → AllZip P xs ys → AllZip Q xs ys
all_zip_weaker P Q f [] [] h = tt
all_zip_weaker P Q f [] (b ∷ ys) h = absurd h
all_zip_weaker P Q f (a ∷ xs) [] h = absurd h
all_zip_weaker P Q f (a ∷ xs) (b ∷ ys) h = (f a b h.0, all_zip_weaker P Q f xs ys h.1)

pub all_more : {A : Type 0} (P : A → Type 0) (xs : List A) (x : A) → AllByRecursion P xs → P x → AllByRecursion P (xs ++ x ∷ [])
all_more P [] x h p = (p, tt)
all_more P (y ∷ xs) x h p = (h.0, all_more P xs x h.1 p)

-- ---- entries in the order of their keys

module _ {K X : Type 0} (R : K → K → Ordering) where
  -- values of entries in order, in a relation that follows from it
  pub pairwise_values : (P : X → X → Type 0) (es : List (K × X)) → ((d e : K × X) → IsIn es d → IsIn es e → is_lt (R d.0 e.0) ≡ true → P d.1 e.1) → T (is_sorted R es) → Pairwise P (map (λ e. e.1) es)
  pairwise_values P [] each h = tt
  pairwise_values P (d ∷ es) each h =
      let parts = T_and _ _ h in (
        all_in (P d.1) (map (λ e. e.1) es) (λ x among.
            let one = from_map (λ (e : K × X). e.1) es x among in
            subst (P d.1) one.2 (each d one.0 (inl refl) (inr one.1) (below_in R d.0 es one.0 parts.0 one.1))),
        pairwise_values P es (λ a b p q. each a b (inr p) (inr q)) parts.1,
      )

  -- a list in order, cut in two
  pub sorted_split : (xs ys : List (K × X)) → T (is_sorted R (xs ++ ys)) → T (is_sorted R xs) × T (is_sorted R ys) × ((d e : K × X) → IsIn xs d → IsIn ys e → is_lt (R d.0 e.0) ≡ true)
  sorted_split [] ys h = (tt, h, λ d e p q. elim p [ ])
  sorted_split (x ∷ xs) ys h =
      let parts = T_and _ _ h in
      let rest = sorted_split xs ys parts.1 in
      (both_T _ _ (below_first x.0 xs ys parts.0) rest.0, rest.1, by x xs parts.0 rest.2)
    where
      both_T : (a b : Bool) → T a → T b → T (a && b)
      both_T true b p q = q
      both_T false b p q = p

      below_first : (k : K) (xs ys : List (K × X)) → T (below_all R k (xs ++ ys)) → T (below_all R k xs)
      below_first k [] ys h = tt
      below_first k (x ∷ xs) ys h = both_T _ _ (T_and _ _ h).0 (below_first k xs ys (T_and _ _ h).1)

      by : (x : K × X) (xs : List (K × X)) → T (below_all R x.0 (xs ++ ys)) → ((d e : K × X) → IsIn xs d → IsIn ys e → is_lt (R d.0 e.0) ≡ true) → (d e : K × X) → IsIn (x ∷ xs) d → IsIn ys e → is_lt (R d.0 e.0) ≡ true
      by x xs h rest d e (inl is) q = ap (λ (c : K × X). is_lt (R c.0 e.0)) (sym is) ∙ below_in R x.0 (xs ++ ys) e h (in_right xs ys e q)
      by x xs h rest d e (inr p) q = rest d e p q
