-- Orders by keys, one key after another.
use Rattle.std.proofs.Common.{◌≡◌, ℕ, zero, suc, ◌+◌, ◌<◌, List, [], ◌∷◌, length, get_or, drop, refl, sym, ap, ◌∙◌, add-one}
use Rattle.std.proofs.lemmas.List.{drop_more}
use Rattle.std.specs.declared.cmp.Ordering.{Ordering}
use Rattle.std.specs.declared.cmp.Ordering.TheVariants.{Less, Equal, Greater}
use Rattle.std.specs.Ordering.{ordering_then}
use Rattle.resource_schema.specs.declared.values.AttrValue.{AttrValue}
use Rattle.resource_schema.specs.declared.values.AttrValue.TheVariants as value
use Rattle.task_forms.specs.declared.queries.SortKey.{SortKey}
use Rattle.store_model.specs.Pages.{in_direction, leading_value, values_cmp}

pub then_equal : (o : Ordering) → ordering_then o Equal ≡ o
then_equal Less = refl
then_equal Equal = refl
then_equal Greater = refl

leading_at : (i : ℕ) (xs : List AttrValue) → leading_value (drop i xs) ≡ get_or xs i value.Null
leading_at zero [] = refl
leading_at zero (x ∷ xs) = refl
leading_at (suc i) [] = refl
leading_at (suc i) (x ∷ xs) = leading_at i xs

drop_suc : (i : ℕ) (xs : List AttrValue) → drop 1 (drop i xs) ≡ drop (suc i) xs
drop_suc zero xs = refl
drop_suc (suc i) [] = refl
drop_suc (suc i) (x ∷ xs) = drop_suc i xs

drop_one : (i : ℕ) (xs : List AttrValue) → drop 1 (drop i xs) ≡ drop (i + 1) xs
drop_one i xs = drop_suc i xs ∙ ap (λ n. drop n xs) (sym (add-one i))

-- what two lists of values say from one key on
abbrev pub from_key : List SortKey → List AttrValue → List AttrValue → ℕ → Ordering
from_key sort xs ys i = values_cmp (drop i sort) (drop i xs) (drop i ys)

pub key_step : (sort : List SortKey) (xs ys : List AttrValue) (i : ℕ) (d : SortKey) → i < length sort
    → from_key sort xs ys i ≡ ordering_then (in_direction (get_or sort i d).descending (get_or xs i value.Null) (get_or ys i value.Null)) (from_key sort xs ys (i + 1))
key_step sort xs ys i d lt =
    ap (λ ks. values_cmp ks (drop i xs) (drop i ys)) (drop_more sort i d lt)
    ∙ ap (λ v. ordering_then (in_direction (get_or sort i d).descending v (leading_value (drop i ys))) (values_cmp (drop (i + 1) sort) (drop 1 (drop i xs)) (drop 1 (drop i ys)))) (leading_at i xs)
    ∙ ap (λ v. ordering_then (in_direction (get_or sort i d).descending (get_or xs i value.Null) v) (values_cmp (drop (i + 1) sort) (drop 1 (drop i xs)) (drop 1 (drop i ys)))) (leading_at i ys)
    ∙ ap (λ vs. ordering_then (in_direction (get_or sort i d).descending (get_or xs i value.Null) (get_or ys i value.Null)) (values_cmp (drop (i + 1) sort) vs (drop 1 (drop i ys)))) (drop_one i xs)
    ∙ ap (λ vs. ordering_then (in_direction (get_or sort i d).descending (get_or xs i value.Null) (get_or ys i value.Null)) (values_cmp (drop (i + 1) sort) (drop (i + 1) xs) vs)) (drop_one i ys)

-- the order at one key, as it was told
pub key_told : (sort : List SortKey) (xs ys : List AttrValue) (i : ℕ) (d key : SortKey) (left right : AttrValue) (o : Ordering) → i < length sort → values_cmp sort xs ys ≡ from_key sort xs ys i → key ≡ get_or sort i d
    → left ≡ get_or xs i value.Null → right ≡ get_or ys i value.Null → o ≡ in_direction key.descending left right → values_cmp sort xs ys ≡ ordering_then o (from_key sort xs ys (i + 1))
key_told sort xs ys i d key left right o lt so_far is lefts rights told =
    so_far ∙ key_step sort xs ys i d lt
    ∙ ap (λ (k : SortKey). ordering_then (in_direction k.descending (get_or xs i value.Null) (get_or ys i value.Null)) (from_key sort xs ys (i + 1))) (sym is)
    ∙ ap (λ v. ordering_then (in_direction key.descending v (get_or ys i value.Null)) (from_key sort xs ys (i + 1))) (sym lefts)
    ∙ ap (λ v. ordering_then (in_direction key.descending left v) (from_key sort xs ys (i + 1))) (sym rights)
    ∙ ap (λ r. ordering_then r (from_key sort xs ys (i + 1))) (sym told)
