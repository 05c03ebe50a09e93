-- A list that is judged item by item: what was looked at so far, and its first refusal.
use Rattle.std.proofs.Common.{◌≡◌, ℕ, ◌+◌, ◌<◌, suc, List, [], ◌∷◌, ◌++◌, refl, sym, ap, subst, ◌∙◌, Option, Some, None, length, get_or, take, drop, arith, add-one, drop-cons, append_assoc}
use Rattle.std.specs.Prelude.{map, ◌≤◌, Result, Ok, Err, IsErr, IsErrAnd}
use Rattle.std.proofs.Math.Seq.{take-suc, take-length}
use Rattle.std.proofs.lemmas.List.{take-append-drop, map-append}
use Rattle.ident_rules.specs.declared.key.Key.{Key}
use Rattle.error_objects.specs.declared.refusals.Refusal.{Refusal}
use Rattle.store_model.specs.Change.{first_of}
use Rattle.store_model.specs.Reach.{is_row_in}
use Rattle.view_reads.specs.Recording.{Recording}
use Rattle.ident_rules.specs.declared.step_errors.StepError.{StepError}
use Rattle.ident_rules.specs.declared.step_errors.StepError.TheVariants.{Because, NoMemory}
use Rattle.trial_steps.specs.Steps.{LooksAt, RefusesOr}
use Rattle.trial_steps.specs.StepLaws.{looks_more, looks_rows_on, row_in_left}

-- ---- parts of a list

pub next_taken : {A : Type 0} (xs : List A) (i : ℕ) (m : A) → i < length xs → m ≡ get_or xs i m → take (i + 1) xs ≡ take i xs ++ m ∷ []
next_taken xs i m lt is = ap (λ n. take n xs) (add-one i) ∙ take-suc xs i m lt ∙ ap (λ y. take i xs ++ y ∷ []) (sym is)

pub parted : {A : Type 0} (xs : List A) (i : ℕ) (m : A) → i < length xs → m ≡ get_or xs i m → (take i xs ++ m ∷ []) ++ drop (suc i) xs ≡ xs
parted xs i m lt is =
    append_assoc (take i xs) (m ∷ []) (drop (suc i) xs)
    ∙ ap (λ y. take i xs ++ y ∷ drop (suc i) xs) is
    ∙ ap (λ ys. take i xs ++ ys) (sym (drop-cons xs i m lt))
    ∙ take-append-drop i xs

-- ---- the first refusal

first_after : (xs ys : List (Option Refusal)) → first_of xs ≡ None → first_of (xs ++ ys) ≡ first_of ys
first_after [] ys e = refl
first_after (None ∷ xs) ys e = first_after xs ys e
first_after (Some r ∷ xs) ys e = cc e

first_told : (xs ys : List (Option Refusal)) (r : Refusal) → first_of xs ≡ Some r → first_of (xs ++ ys) ≡ Some r
first_told [] ys r e = cc e
first_told (None ∷ xs) ys r e = first_told xs ys r e
first_told (Some x ∷ xs) ys r e = e

first_one : (o : Option Refusal) → first_of (o ∷ []) ≡ o
first_one None = refl
first_one (Some r) = refl

first_next : {A : Type 0} (f : A → Option Refusal) (xs : List A) (m : A) → first_of (map f xs) ≡ None → first_of (map f (xs ++ m ∷ [])) ≡ f m
first_next f xs m e = ap first_of (map-append f xs (m ∷ [])) ∙ first_after (map f xs) (f m ∷ []) e ∙ first_one (f m)

-- no refusal so far, and none of this item
pub first_so_far : {A : Type 0} (f : A → Option Refusal) (xs : List A) (i : ℕ) (m : A) → i < length xs → m ≡ get_or xs i m → first_of (map f (take i xs)) ≡ None → f m ≡ None → first_of (map f (take (i + 1) xs)) ≡ None
first_so_far f xs i m lt is none e = ap (λ ys. first_of (map f ys)) (next_taken xs i m lt is) ∙ first_next f (take i xs) m none ∙ e

-- no refusal so far, and one of this item
pub first_here : {A : Type 0} (f : A → Option Refusal) (xs : List A) (i : ℕ) (m : A) (r : Refusal) → i < length xs → m ≡ get_or xs i m → first_of (map f (take i xs)) ≡ None → f m ≡ Some r → first_of (map f xs) ≡ Some r
first_here f xs i m r lt is none e =
    ap (λ ys. first_of (map f ys)) (sym (parted xs i m lt is))
    ∙ ap first_of (map-append f (take i xs ++ m ∷ []) (drop (suc i) xs))
    ∙ first_told (map f (take i xs ++ m ∷ [])) (map f (drop (suc i) xs)) r (first_next f (take i xs) m none ∙ e)

-- behind a list without refusals, one more
pub first_behind : (xs : List (Option Refusal)) (o : Option Refusal) → first_of xs ≡ None → first_of (xs ++ o ∷ []) ≡ o
first_behind xs o e = first_after xs (o ∷ []) e ∙ first_one o

pub first_before : (xs ys : List (Option Refusal)) (r : Refusal) → first_of xs ≡ Some r → first_of (xs ++ ys) ≡ Some r
first_before xs ys r e = first_told xs ys r e

-- an answer without a value is passed on
pub judges_stop : {T U : Type 0} (at : List ℕ) (mine whole : Option Refusal) (P : T → Type 0) (Q : U → Type 0) (stop : StepError Refusal) → ((r : Refusal) → mine ≡ Some r → whole ≡ Some r)
    → RefusesOr at mine P (Err stop) → RefusesOr at whole Q (Err stop)
judges_stop at mine whole P Q (Because r) more told = (told.0, more told.0 told.1, told.2)
judges_stop at mine whole P Q NoMemory more told = tt

-- ---- what is looked at, where the keys of a list are those of its parts

module _ {A : Type 0} (keys : List A → List Key) (splits : (xs ys : List A) → keys (xs ++ ys) ≡ keys xs ++ keys ys) where
  looks_parts : {V : Type 0} (xs : List A) (i : ℕ) (m : A) (a b c : Recording V)
      → LooksAt (is_row_in (keys (take i xs))) a b → LooksAt (is_row_in (keys (m ∷ []))) b c → LooksAt (is_row_in (keys (take i xs ++ m ∷ []))) a c
  looks_parts xs i m a b c f g =
      subst (λ (ks : List Key). LooksAt (is_row_in ks) a c) (sym (splits (take i xs) (m ∷ []))) (looks_rows_on (keys (take i xs)) (keys (m ∷ [])) a b c f g)

  -- so far, and at this item
  pub looks_so_far : {V : Type 0} (xs : List A) (i : ℕ) (m : A) (a b c : Recording V) → i < length xs → m ≡ get_or xs i m
      → LooksAt (is_row_in (keys (take i xs))) a b → LooksAt (is_row_in (keys (m ∷ []))) b c → LooksAt (is_row_in (keys (take (i + 1) xs))) a c
  looks_so_far xs i m a b c lt is f g =
      subst (λ (ys : List A). LooksAt (is_row_in (keys ys)) a c) (sym (next_taken xs i m lt is)) (looks_parts xs i m a b c f g)

  -- the first of a list, as part of the whole
  pub looks_begun : {V : Type 0} (xs : List A) (i : ℕ) (a b : Recording V) → LooksAt (is_row_in (keys (take i xs))) a b → LooksAt (is_row_in (keys xs)) a b
  looks_begun xs i a b f =
      subst (λ (ks : List Key). LooksAt (is_row_in ks) a b) (sym (splits (take i xs) (drop i xs)) ∙ ap keys (take-append-drop i xs))
      (looks_more (is_row_in (keys (take i xs))) (is_row_in (keys (take i xs) ++ keys (drop i xs))) a b (row_in_left (keys (take i xs)) (keys (drop i xs))) f)

  -- as part of the whole list
  pub looks_here : {V : Type 0} (xs : List A) (i : ℕ) (m : A) (a b c : Recording V) → i < length xs → m ≡ get_or xs i m
      → LooksAt (is_row_in (keys (take i xs))) a b → LooksAt (is_row_in (keys (m ∷ []))) b c → LooksAt (is_row_in (keys xs)) a c
  looks_here xs i m a b c lt is f g =
      subst (λ (ks : List Key). LooksAt (is_row_in ks) a c) (sym (splits (take i xs ++ m ∷ []) (drop (suc i) xs)) ∙ ap keys (parted xs i m lt is))
      (looks_more (is_row_in (keys (take i xs ++ m ∷ []))) (is_row_in (keys (take i xs ++ m ∷ []) ++ keys (drop (suc i) xs))) a c (row_in_left (keys (take i xs ++ m ∷ [])) (keys (drop (suc i) xs)))
      (looks_parts xs i m a b c f g))

-- ---- the end of a list, and an error that is passed on

pub all_taken : {A : Type 0} (xs : List A) (i : ℕ) → i ≤ length xs → length xs ≤ i → take i xs ≡ xs
all_taken xs i low high = let e : i ≡ length xs = omega arith in ap (λ n. take n xs) e ∙ take-length xs

pub err_passed : {U : Type 0} (r : Result U (StepError Refusal)) (stop : StepError Refusal) → IsErr r → IsErrAnd r (λ e. e ≡ stop) → r ≡ Err stop
err_passed (Ok x) stop is h = cc is
err_passed (Err e) stop is h = ap Err h

pub judges_passed : {T U : Type 0} (at : List ℕ) (mine whole : Option Refusal) (P : T → Type 0) (Q : U → Type 0) (stop : StepError Refusal) (r : Result U (StepError Refusal)) → IsErr r → IsErrAnd r (λ e. e ≡ stop)
    → ((x : Refusal) → mine ≡ Some x → whole ≡ Some x) → RefusesOr at mine P (Err stop) → RefusesOr at whole Q r
judges_passed {T} {U} at mine whole P Q stop r is passed more told =
    subst (λ (x : Result U (StepError Refusal)). RefusesOr at whole Q x) (sym (err_passed r stop is passed)) (judges_stop at mine whole P Q stop more told)
