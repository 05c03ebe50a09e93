-- The passes that are left, as one after another is taken from their end.
use Rattle.std.proofs.Common.{◌≡◌, ℕ, zero, suc, ◌+◌, ◌≤◌, ◌<◌, List, [], ◌∷◌, ◌++◌, length, true, Option, Some, refl, sym, ap, ◌∙◌, subst, ◌⊎◌, ◌≢◌, false, inl, inr, arith, length-append}
use Rattle.std.specs.Prelude.{⊤, All, IfSome, take, option_to_list, ◌||◌}
use Rattle.std.proofs.lemmas.List.Elements.{All-head, All-tail, All-cons, All-nil}
use Rattle.std.proofs.Math.Dec.{eqb}
use Rattle.std.proofs.Math.Seq.{take-append_seam}
use Rattle.std.proofs.lemmas.Bool.{eq-eqb}
use Rattle.std.proofs.lemmas.Bool.Decides.{eqb_tells}
use Rattle.atomic_table.specs.Seated.{TableId}
use Rattle.ident_rules.specs.Owned.{is_among}
use Rattle.history_lock.specs.declared.rule.Start.{Start}
use Rattle.history_lock.specs.Views.{PassState, LockState}
use Rattle.history_lock.specs.Making.{AreMade, new_pass, passes_from, one_more_pass}
use Rattle.lock_runs.specs.declared.tallies.Made.{Made}
use Rattle.lock_runs.specs.declared.turns.Turn.{Turn}
use Rattle.lock_runs.specs.Turns.{unit, IsOf, IsReady, Covers}

module _ {A : Type 0} where
  no_cons : (x : A) (xs : List A) → x ∷ xs ≡ [] → ⊥
  no_cons x xs e = let n : length (x ∷ xs) ≡ 0 = ap length e in omega (arith, n)

  heads : (x y : A) (xs ys : List A) → x ∷ xs ≡ y ∷ ys → (x ≡ y) × (xs ≡ ys)
  heads x y xs ys e = (cc e, cc e)

  last_parts : (xs ys : List A) (x y : A) → length xs ≡ length ys → xs ++ x ∷ [] ≡ ys ++ y ∷ [] → (xs ≡ ys) × (x ≡ y)
  last_parts [] [] x y n e = (refl, (heads x y [] [] e).0)
  last_parts [] (b ∷ ys) x y n e = absurd (omega (arith, n))
  last_parts (a ∷ xs) [] x y n e = absurd (omega (arith, n))
  last_parts (a ∷ xs) (b ∷ ys) x y n e =
      let h = heads a b (xs ++ x ∷ []) (ys ++ y ∷ []) e in
      let r = last_parts xs ys x y (omega (arith, n)) h.1 in
      ((λ i. h.0 i ∷ r.0 i), r.1)

module _ (name : TableId) (start : Start) where
  passes_length : (i n : ℕ) → length (passes_from {E = Made} name start unit i n) ≡ n
  passes_length i zero = refl
  passes_length i (suc n) = ap suc (passes_length (suc i) n)

  popped : (front : List (PassState Made ⊤)) (p : PassState Made ⊤) (n : ℕ) → n ≡ length front + 1 → front ++ p ∷ [] ≡ passes_from name start unit 0 n
      → (front ≡ passes_from name start unit 0 (length front)) × (p ≡ new_pass name start unit (length front))
  popped front p n is e =
      let count : n ≡ suc (length front) = omega (arith, is) in
      let whole = e ∙ ap (λ (m : ℕ). passes_from {E = Made} name start unit 0 m) count ∙ one_more_pass name start unit 0 (length front) in
      let parts = last_parts front (passes_from name start unit 0 (length front)) p (new_pass name start unit (0 + length front)) (sym (passes_length 0 (length front))) whole in
      (parts.0, parts.1 ∙ ap (λ (m : ℕ). new_pass {E = Made} name start unit m) (omega arith))

  all_of_lock : (lock : LockState) → lock.name ≡ name → start.first ≡ 0 → lock.start ≡ start → (i n : ℕ) → All (IsOf lock) (passes_from {E = Made} name start unit i n)
  all_of_lock lock is zero_is same i zero = All-nil (IsOf lock)
  all_of_lock lock is zero_is same i (suc n) =
      All-cons (IsOf lock) (new_pass name start unit i) (passes_from name start unit (suc i) n) (record { lock_is = sym is; first_is = zero_is }) (all_of_lock lock is zero_is same (suc i) n)

-- the last of those that are left
pub last_of : (lock : LockState) (made front : List (PassState Made ⊤)) (whole p : PassState Made ⊤) (found : Option (PassState Made ⊤)) → Covers lock made whole → made ≡ front ++ option_to_list found → found ≡ Some p
    → (front ≡ passes_from lock.name lock.start unit 0 (length front)) × (p ≡ new_pass lock.name lock.start unit (length front)) × (length made ≡ length front + 1)
last_of lock made front whole p found covers parts is =
    let whole_is : made ≡ front ++ p ∷ [] = parts ∙ ap (λ o. front ++ option_to_list o) is in
    let count : length made ≡ length front + 1 = ap length whole_is ∙ length-append front (p ∷ []) in
    let r = popped lock.name lock.start front p (length made) count (sym whole_is ∙ covers.left) in
    (r.0, r.1, count)

pub of_lock : (lock : LockState) (p : PassState Made ⊤) (n : ℕ) → lock.start.first ≡ 0 → p ≡ new_pass lock.name lock.start unit n → IsOf lock p
of_lock lock p n zero_is is = subst (IsOf lock) (sym is) (record { lock_is = refl; first_is = zero_is })

-- what the whole covers with one more
pub covers_more : (lock : LockState) (made front : List (PassState Made ⊤)) (whole p own now : PassState Made ⊤) (found : Option (PassState Made ⊤)) → Covers lock made whole
    → made ≡ front ++ option_to_list found → found ≡ Some p → own.view.numbers ≡ p.view.numbers
    → ((n : ℕ) → is_among n whole.view.numbers ≡ true → is_among n now.view.numbers ≡ true) → ((n : ℕ) → is_among n own.view.numbers ≡ true → is_among n now.view.numbers ≡ true)
    → Covers lock front now
covers_more lock made front whole p own now found covers parts is same of_whole of_own =
    let l = last_of lock made front whole p found covers parts is in
    let numbers : own.view.numbers ≡ length front ∷ [] = same ∙ ap (λ (x : PassState Made ⊤). x.view.numbers) l.1 in
    record {
      left = l.0;
      first_is = covers.first_is;
      has = λ n low high. by_tells n low high numbers l.2 (eqb_tells n (length front));
    }
  where
    first_among : (n m : ℕ) → eqb n m ≡ true → is_among n (m ∷ []) ≡ true
    first_among n m e = ap (λ b. b || false) e

    by_tells : (n : ℕ) → length front ≤ n → n < lock.start.passes → own.view.numbers ≡ length front ∷ [] → length made ≡ length front + 1
        → ((eqb n (length front) ≡ true) × (n ≡ length front)) ⊎ ((eqb n (length front) ≡ false) × (n ≢ length front)) → is_among n now.view.numbers ≡ true
    by_tells n low high numbers count (inl h) = of_own n (ap (is_among n) numbers ∙ first_among n (length front) h.0)
    by_tells n low high numbers count (inr h) = let ne = h.1 in of_whole n (covers.has n (omega (arith, low, ne, count)) high)

-- at first the last pass covers itself
pub covers_first : (first passes : ℕ) (lock : LockState) (made front : List (PassState Made ⊤)) (p now : PassState Made ⊤) (found : Option (PassState Made ⊤)) → AreMade first passes unit lock made → first ≡ 0
    → made ≡ front ++ option_to_list found → found ≡ Some p → now.view.numbers ≡ p.view.numbers → IsOf lock p × Covers lock front now
covers_first first passes lock made front p now found are zero_is parts is same =
    let whole_is : made ≡ front ++ p ∷ [] = parts ∙ ap (λ o. front ++ option_to_list o) is in
    let passes_is : lock.start.passes ≡ passes = ap (λ s. s.passes) are.start in
    let first_is : lock.start.first ≡ 0 = ap (λ s. s.first) are.start ∙ zero_is in
    let long : length made ≡ passes = ap length are.each ∙ passes_length lock.name lock.start 0 passes in
    let count : length made ≡ length front + 1 = ap length whole_is ∙ length-append front (p ∷ []) in
    let r = popped lock.name lock.start front p passes (omega (arith, long, count)) (sym whole_is ∙ are.each) in
    let numbers : now.view.numbers ≡ length front ∷ [] = same ∙ ap (λ (x : PassState Made ⊤). x.view.numbers) r.1 in (
      of_lock lock p (length front) first_is r.1,
      record {
        left = r.0;
        first_is = first_is;
        has = λ n low high.
            let at : n ≡ length front = omega (arith, low, high, passes_is, long, count) in
            ap (is_among n) numbers ∙ subst (λ (m : ℕ). is_among n (m ∷ []) ≡ true) at (among_self n);
      },
    )
  where
    among_self : (n : ℕ) → is_among n (n ∷ []) ≡ true
    among_self n = ap (λ b. b || false) (eq-eqb n n refl)

pub made_of_lock : (first passes : ℕ) (lock : LockState) (made : List (PassState Made ⊤)) → AreMade first passes unit lock made → first ≡ 0 → All (IsOf lock) made
made_of_lock first passes lock made are zero_is =
    subst (All (IsOf lock)) (sym are.each) (all_of_lock lock.name lock.start lock refl (ap (λ s. s.first) are.start ∙ zero_is) refl 0 passes)

all_behind : {A : Type 0} (P : A → Type 0) (xs ys : List A) → All P (xs ++ ys) → All P ys
all_behind P [] ys a = a
all_behind P (x ∷ xs) ys a = all_behind P xs ys (All-tail P x (xs ++ ys) a)

-- the last of some turns that are ready is ready
pub last_ready : (lock : LockState) (n : ℕ) (turns others front : List Turn) (turn : Turn) (found : Option Turn) → All (IsReady lock) turns → n ≡ length turns → take n (turns ++ others) ≡ front ++ option_to_list found → found ≡ Some turn → IsReady lock turn
last_ready lock n turns others front turn found all len parts is =
    let whole : turns ≡ front ++ turn ∷ [] = sym (take-append_seam turns others) ∙ ap (λ (m : ℕ). take m (turns ++ others)) (sym len) ∙ parts ∙ ap (λ o. front ++ option_to_list o) is in
    All-head (IsReady lock) turn [] (all_behind (IsReady lock) front (turn ∷ []) (subst (All (IsReady lock)) whole all))

pub pass_ready : (lock : LockState) (turn : Turn) (p : PassState Made ⊤) → IsReady lock turn → turn.pass ≡ Some p → IsOf lock p
pass_ready lock turn p ready is = subst (λ o. IfSome o (IsOf lock)) is ready.of_lock
