-- What stands in the brackets of `fields[..]`.
use Rattle.std.proofs.Common.{◌≡◌, ◌≢◌, ℕ, ◌-◌, ◌<◌, ◌≤◌, ◌&&◌, Bool, true, false, List, [], ◌∷◌, ◌++◌, length, take, drop, get_or, Option, Some, None, refl, sym, ap, ◌∙◌, subst, arith, append_assoc, length-append}
use Rattle.std.specs.Borrow.{Bor}
use Rattle.std.specs.Prelude.{MatchOption, codes, nat_eq, option_map}
use Rattle.std.specs.List.{ends_with}
use Rattle.std.proofs.Math.Seq.{take-append_seam, get_or-append_seam}
use Rattle.std.proofs.lemmas.List.{drop-append-le}
use Rattle.std.proofs.lemmas.Bool.Decides.{Decides-eqb}
use Rattle.std.proofs.lemmas.Slice.Eq.{starts_is, ends_is}
use Rattle.request_model.specs.Words.{begins, some_if}
use Rattle.request_model.specs.Queries.{in_brackets}

abbrev front : List ℕ
front = codes "fields["

abbrev ended : List ℕ → Bool
ended name = ends_with nat_eq name (codes "]")

-- a name of the family, by its two tests
by_tests : (name : List ℕ) (b e : Bool) → begins front name ≡ b → ended name ≡ e
    → in_brackets (codes "fields") name ≡ some_if (b && e) (drop 7 (take (length name - 1) name))
by_tests name b e first last =
    ap (λ t. some_if (t && ended name) (drop 7 (take (length name - 1) name))) first
    ∙ ap (λ t. some_if (b && t) (drop 7 (take (length name - 1) name))) last

begins_so : (behind : List ℕ) → begins front (front ++ behind) ≡ true
begins_so behind = (starts_is Decides-eqb (front ++ behind) front _ refl).1 behind refl

ends_so : (name before : List ℕ) → name ≡ before ++ 93 ∷ [] → ended name ≡ true
ends_so name before e = (ends_is Decides-eqb name (93 ∷ []) _ refl).1 before e

-- the name is no member of the family
pub no_family : (name : List ℕ) → ((rest : List ℕ) → name ≢ front ++ rest) → None ≡ in_brackets (codes "fields") name
no_family name none = by_test (begins front name) refl where
  by_test : (b : Bool) → begins front name ≡ b → None ≡ in_brackets (codes "fields") name
  by_test true e = absurd (none (drop 7 name) ((starts_is Decides-eqb name front _ refl).0 e))
  by_test false e = sym (by_tests name false (ended name) e refl)

without_last : (xs : List ℕ) → take (length (xs ++ 93 ∷ []) - 1) (xs ++ 93 ∷ []) ≡ xs
without_last xs =
    let count : length (xs ++ 93 ∷ []) - 1 ≡ length xs = omega (arith, length-append xs (93 ∷ [])) in
    ap (λ n. take n (xs ++ 93 ∷ [])) count ∙ take-append_seam xs (93 ∷ [])

-- with its brackets
closed : (name inside : List ℕ) → name ≡ front ++ (inside ++ 93 ∷ []) → Some inside ≡ in_brackets (codes "fields") name
closed name inside e =
    let whole : name ≡ (front ++ inside) ++ 93 ∷ [] = e ∙ sym (append_assoc front inside (93 ∷ [])) in
    let first : begins front name ≡ true = ap (begins front) e ∙ begins_so (inside ++ 93 ∷ []) in
    let cut : take (length name - 1) name ≡ front ++ inside = ap (λ l. take (length l - 1) l) whole ∙ without_last (front ++ inside) in
    sym (by_tests name true true first (ends_so name (front ++ inside) whole) ∙ ap (λ l. Some (drop 7 l)) cut)

-- what ends so behind the front does so by itself
last_behind : (behind before : List ℕ) → front ++ behind ≡ before ++ 93 ∷ [] → 0 < length behind → behind ≡ drop 7 before ++ 93 ∷ []
last_behind behind before e some =
    let count = ap length e in
    let enough : 7 ≤ length before = omega (arith, count, length-append before (93 ∷ []), length-append front behind) in
    ap (drop 7) e ∙ drop-append-le 7 before (93 ∷ []) enough

open_end : (before : List ℕ) → front ≡ before ++ 93 ∷ [] → ⊥
open_end before e =
    let count : 6 ≡ length before = omega (arith, ap length e, length-append before (93 ∷ [])) in
    let here : get_or (before ++ 93 ∷ []) (length before) 0 ≡ 93 = get_or-append_seam before 93 [] 0 in
    let there : get_or front (length before) 0 ≡ 91 = ap (λ n. get_or front n 0) (sym count) in
    let same : get_or front (length before) 0 ≡ 93 = ap (λ l. get_or l (length before) 0) e ∙ here in
    let bad : 91 ≡ 93 = sym there ∙ same in
    absurd (omega (arith, bad))

-- without the last bracket
unclosed : (name behind : List ℕ) → name ≡ front ++ behind → ((inside : List ℕ) → behind ≢ inside ++ 93 ∷ []) → None ≡ in_brackets (codes "fields") name
unclosed name behind e none = by_test (ended name) refl where
  no_end : (l : List ℕ) → l ≡ behind → front ++ behind ≡ take (length name - 1) name ++ 93 ∷ [] → ⊥
  no_end [] is h = open_end (take (length name - 1) name) (subst (λ l. front ++ l ≡ take (length name - 1) name ++ 93 ∷ []) (sym is) h)
  no_end (b ∷ bs) is h =
      let some : 0 < length behind = omega (arith, ap length is) in
      none (drop 7 (take (length name - 1) name)) (last_behind behind (take (length name - 1) name) h some)

  by_test : (b : Bool) → ended name ≡ b → None ≡ in_brackets (codes "fields") name
  by_test true last = absurd (no_end behind refl (sym e ∙ (ends_is Decides-eqb name (93 ∷ []) _ refl).0 last))
  by_test false last =
      let first : begins front name ≡ true = ap (begins front) e ∙ begins_so behind in
      sym (by_tests name true false first last)

-- what is left of the name when both brackets are cut off
pub in_family : (name behind : List ℕ) (r : Option (Bor (List ℕ))) → name ≡ front ++ behind
    → MatchOption r ((inside : List ℕ) → behind ≢ inside ++ 93 ∷ []) (λ x. behind ≡ x.now ++ 93 ∷ []) → option_map (λ t. t.now) r ≡ in_brackets (codes "fields") name
in_family name behind None e none = unclosed name behind e none
in_family name behind (Some x) e is = closed name x.now (e ∙ ap (λ l. front ++ l) is)
