-- Histories: prefixes, the longer of two of them, and the entries that numbers own.
use Rattle.std.proofs.Common.{◌≡◌, ℕ, ◌+◌, List, [], ◌∷◌, ◌++◌, length, Bool, true, false, true≢false, refl, sym, ap, ◌∙◌, arith, append_assoc, length-append, append-nil}
use Rattle.std.specs.Prelude.{if◌then◌else◌, ◌||◌, All}
use Rattle.std.proofs.lemmas.List.Elements.{All-head, All-tail, All-cons, All-nil}
use mathlib.Core.List.{IsPrefix}
use Rattle.ident_rules.specs.Owned.{is_among, entries_by, entries_by-append}
use Rattle.history_lock.specs.Numbers.{among_append}
use Rattle.history_lock.specs.Views.{longer}

pub off : false ≡ true → ⊥
off e = true≢false (sym e)

module _ {A : Type 0} where
  pub prefix_self : (xs : List A) → IsPrefix xs xs
  prefix_self xs = ([], append-nil xs)

  pub prefix_more : (xs ys zs : List A) → IsPrefix xs ys → IsPrefix xs (ys ++ zs)
  prefix_more xs ys zs p = (p.0 ++ zs, sym (append_assoc xs p.0 zs) ∙ ap (λ l. l ++ zs) p.1)

  no_cons : (x : A) (xs : List A) → x ∷ xs ≡ [] → ⊥
  no_cons x xs e = let n : length (x ∷ xs) ≡ 0 = ap length e in omega (arith, n)

  empty : (xs : List A) → length xs ≡ 0 → xs ≡ []
  empty [] n = refl
  empty (x ∷ xs) n = absurd (omega (arith, n))

  -- what is put behind a list and leaves it is nothing
  pub behind_none : (xs ys : List A) → xs ++ ys ≡ xs → ys ≡ []
  behind_none xs ys e = let n : length (xs ++ ys) ≡ length xs = ap length e in let m = length-append xs ys in empty ys (omega (arith, n, m))

  pub both_none : (xs ys : List A) → xs ++ ys ≡ [] → (xs ≡ []) × (ys ≡ [])
  both_none [] ys e = (refl, e)
  both_none (x ∷ xs) ys e = absurd (no_cons x (xs ++ ys) e)

  heads : (x y : A) (xs ys : List A) → x ∷ xs ≡ y ∷ ys → (x ≡ y) × (xs ≡ ys)
  heads x y xs ys e = (cc e, cc e)

  -- of two prefixes of one list the longer is a prefix of it, and begins with each
  pub longer_is : (xs ys l : List A) → IsPrefix xs l → IsPrefix ys l → IsPrefix (longer xs ys) l × IsPrefix xs (longer xs ys) × IsPrefix ys (longer xs ys)
  longer_is [] ys l p q = (q, (ys, refl), prefix_self ys)
  longer_is (x ∷ xs) [] l p q = (p, prefix_self (x ∷ xs), (x ∷ xs, refl))
  longer_is (x ∷ xs) (y ∷ ys) [] p q = absurd (no_cons x (xs ++ p.0) p.1)
  longer_is (x ∷ xs) (y ∷ ys) (z ∷ l) p q =
      let a = heads x z (xs ++ p.0) l p.1 in
      let b = heads y z (ys ++ q.0) l q.1 in
      let r = longer_is xs ys l (p.0, a.1) (q.0, b.1) in
      let same : x ≡ y = a.0 ∙ sym b.0 in (
        (r.0.0, ap (λ h. h ∷ (longer xs ys ++ r.0.0)) a.0 ∙ ap (λ t. z ∷ t) r.0.1),
        (r.1.0, ap (λ t. x ∷ t) r.1.1),
        (r.2.0, ap (λ h. h ∷ (ys ++ r.2.0)) (sym same) ∙ ap (λ t. x ∷ t) r.2.1),
      )

module _ {A : Type 0} where
  pub all_of : (P Q : A → Type 0) → ((x : A) → P x → Q x) → (l : List A) → All P l → All Q l
  all_of P Q f [] a = All-nil Q
  all_of P Q f (x ∷ xs) a = All-cons Q x xs (f x (All-head P x xs a)) (all_of P Q f xs (All-tail P x xs a))

-- ---- entries

module _ {E : Type 0} (by : E → ℕ) where
  if_true : (b : Bool) (xs ys : List E) → b ≡ true → (if b then xs else ys) ≡ xs
  if_true true xs ys e = refl
  if_true false xs ys e = absurd (off e)

  if_false : (b : Bool) (xs ys : List E) → b ≡ false → (if b then xs else ys) ≡ ys
  if_false false xs ys e = refl
  if_false true xs ys e = absurd (true≢false e)

  pub own_more : (ns : List ℕ) (e : E) (es : List E) → is_among (by e) ns ≡ true → entries_by by ns (es ++ e ∷ []) ≡ entries_by by ns es ++ e ∷ []
  own_more ns e es own = entries_by-append by ns es (e ∷ []) ∙ ap (λ l. entries_by by ns es ++ l) (if_true (is_among (by e) ns) (e ∷ []) [] own)

  pub none_more : (ns : List ℕ) (e : E) (es : List E) → is_among (by e) ns ≡ false → entries_by by ns (es ++ e ∷ []) ≡ entries_by by ns es
  none_more ns e es other =
      entries_by-append by ns es (e ∷ []) ∙ ap (λ l. entries_by by ns es ++ l) (if_false (is_among (by e) ns) (e ∷ []) [] other) ∙ append-nil (entries_by by ns es)

  -- behind what has all entries there are none
  pub none_behind : (ns : List ℕ) (seen rest log mine : List E) → seen ++ rest ≡ log → entries_by by ns seen ≡ mine → entries_by by ns log ≡ mine → entries_by by ns rest ≡ []
  none_behind ns seen rest log mine parts within whole =
      behind_none (entries_by by ns seen) (entries_by by ns rest) (sym (entries_by-append by ns seen rest) ∙ ap (entries_by by ns) parts ∙ whole ∙ sym within)

  -- nothing of theirs behind a list
  pub behind : (ns : List ℕ) (seen rest : List E) → entries_by by ns rest ≡ [] → entries_by by ns (seen ++ rest) ≡ entries_by by ns seen
  behind ns seen rest none = entries_by-append by ns seen rest ∙ ap (λ l. entries_by by ns seen ++ l) none ∙ append-nil (entries_by by ns seen)

  -- between what has all entries and the whole, all entries are there
  pub between : (ns : List ℕ) (seen middle log mine : List E) → IsPrefix seen middle → IsPrefix middle log → entries_by by ns seen ≡ mine → entries_by by ns log ≡ mine
      → (entries_by by ns middle ≡ mine) × (entries_by by ns log ≡ entries_by by ns middle)
  between ns seen middle log mine p q within whole =
      let parts : seen ++ (p.0 ++ q.0) ≡ log = sym (append_assoc seen p.0 q.0) ∙ ap (λ l. l ++ q.0) p.1 ∙ q.1 in
      let none = both_none (entries_by by ns p.0) (entries_by by ns q.0) (sym (entries_by-append by ns p.0 q.0) ∙ none_behind ns seen (p.0 ++ q.0) log mine parts within whole) in
      let here : entries_by by ns middle ≡ mine =
      ap (entries_by by ns) (sym p.1) ∙ entries_by-append by ns seen p.0 ∙ ap (λ l. entries_by by ns seen ++ l) none.0 ∙ append-nil (entries_by by ns seen) ∙ within in
      (here, whole ∙ sym here)

  -- of two lists of numbers
  by_cases : (e : E) (a b : Bool) (xs ys zs : List E) → length zs ≡ length xs + length ys → ((a ≡ true) → (b ≡ true) → ⊥)
      → length (if a || b then e ∷ zs else zs) ≡ length (if a then e ∷ xs else xs) + length (if b then e ∷ ys else ys)
  by_cases e true true xs ys zs n apart = absurd (apart refl refl)
  by_cases e true false xs ys zs n apart = omega (arith, n)
  by_cases e false true xs ys zs n apart = omega (arith, n)
  by_cases e false false xs ys zs n apart = n

  pub count_both : (ns ms : List ℕ) → ((n : ℕ) → is_among n ns ≡ true → is_among n ms ≡ true → ⊥) → (l : List E)
      → length (entries_by by (ns ++ ms) l) ≡ length (entries_by by ns l) + length (entries_by by ms l)
  count_both ns ms apart [] = refl
  count_both ns ms apart (e ∷ es) =
      ap (λ b. length (if b then e ∷ entries_by by (ns ++ ms) es else entries_by by (ns ++ ms) es)) (among_append (by e) ns ms)
      ∙ by_cases e (is_among (by e) ns) (is_among (by e) ms) (entries_by by ns es) (entries_by by ms es) (entries_by by (ns ++ ms) es) (count_both ns ms apart es) (apart (by e))

  none_cases : (e : E) (a b : Bool) (xs ys zs : List E) → (if a then e ∷ xs else xs) ≡ [] → (if b then e ∷ ys else ys) ≡ [] → (xs ≡ [] → ys ≡ [] → zs ≡ []) → (if a || b then e ∷ zs else zs) ≡ []
  none_cases e true b xs ys zs p q next = absurd (no_cons e xs p)
  none_cases e false true xs ys zs p q next = absurd (no_cons e ys q)
  none_cases e false false xs ys zs p q next = next p q

  pub none_both : (ns ms : List ℕ) (l : List E) → entries_by by ns l ≡ [] → entries_by by ms l ≡ [] → entries_by by (ns ++ ms) l ≡ []
  none_both ns ms [] p q = refl
  none_both ns ms (e ∷ es) p q =
      ap (λ b. if b then e ∷ entries_by by (ns ++ ms) es else entries_by by (ns ++ ms) es) (among_append (by e) ns ms)
      ∙ none_cases e (is_among (by e) ns) (is_among (by e) ms) (entries_by by ns es) (entries_by by ms es) (entries_by by (ns ++ ms) es) p q (none_both ns ms es)

  -- of a part of the numbers
  part_cases : (e : E) (a b : Bool) (xs ys : List E) → ((b ≡ true) → a ≡ true) → (if a then e ∷ xs else xs) ≡ [] → (xs ≡ [] → ys ≡ []) → (if b then e ∷ ys else ys) ≡ []
  part_cases e true b xs ys part p next = absurd (no_cons e xs p)
  part_cases e false true xs ys part p next = absurd (off (part refl))
  part_cases e false false xs ys part p next = next p

  pub none_of_part : (ns ms : List ℕ) → ((n : ℕ) → is_among n ms ≡ true → is_among n ns ≡ true) → (l : List E) → entries_by by ns l ≡ [] → entries_by by ms l ≡ []
  none_of_part ns ms part [] p = refl
  none_of_part ns ms part (e ∷ es) p = part_cases e (is_among (by e) ns) (is_among (by e) ms) (entries_by by ns es) (entries_by by ms es) (part (by e)) p (none_of_part ns ms part es)

  -- where the numbers are those of all entries
  pub all_own : (ns : List ℕ) (l : List E) → All (λ e. is_among (by e) ns ≡ true) l → entries_by by ns l ≡ l
  all_own ns [] own = refl
  all_own ns (e ∷ es) own =
      if_true (is_among (by e) ns) (e ∷ entries_by by ns es) (entries_by by ns es) (All-head (λ x. is_among (by x) ns ≡ true) e es own)
      ∙ ap (λ l. e ∷ l) (all_own ns es (All-tail (λ x. is_among (by x) ns ≡ true) e es own))
