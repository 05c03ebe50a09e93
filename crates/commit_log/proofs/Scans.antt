-- A scan of kept entries, from the last one back.
use Rattle.std.proofs.Common.{◌≡◌, ℕ, zero, suc, ◌+◌, ◌-◌, ◌<◌, ◌≤◌, List, [], ◌∷◌, ◌++◌, true, cond, length, get_or, map, drop, refl, sym, ap, subst, ◌∙◌, arith, inl, inr}
use Rattle.std.specs.Prelude.{nat_lt, ◌≢◌}
use Rattle.commit_log.proofs.Loops.{less_from}
use Rattle.std.proofs.lemmas.Bool.{lt-ltb}
use Rattle.std.proofs.lemmas.List.{drop_more}
use Rattle.world_cells.specs.declared.sets.ReadSet.{ReadSet}
use Rattle.history_model.specs.declared.checks.Check.{Check}
use Rattle.history_model.specs.declared.checks.Check.TheVariants as check
use Rattle.history_model.specs.Histories.{Noted}
use Rattle.history_model.specs.Standing.{Meets, IsFirstMeeting}
use Rattle.commit_log.specs.declared.kept.KeptEntry.{KeptEntry}
use Rattle.commit_log.specs.Keeping.{noted, AreBelow, AreAbove, AreRising, IsScanned, count_after}

module _ (reads : ReadSet) (since : ℕ) where
  -- an entry that does not meet the reads after the number is passed over
  pub pass : (x : Noted) (xs : List Noted) (found : Check) → (since < x.number → ¬ Meets reads x.keys) → IsScanned reads since xs found → IsScanned reads since (x ∷ xs) found
  pass x xs check.Clear apart h = (apart, h)
  pass x xs (check.Conflict n) apart h = inr (apart, h)
  pass x xs (check.Aged n) apart h = absurd h

  above_at : (n : ℕ) (xs : List Noted) (i : ℕ) (d : Noted) → AreAbove n xs → i < length xs → n < (get_or xs i d).number
  above_at n [] i d h lt = absurd (omega arith)
  above_at n (x ∷ xs) zero d h lt = h.0
  above_at n (x ∷ xs) (suc i) d h lt = above_at n xs i d h.1 (omega arith)

  -- up to an entry that came before the number, all did
  pub old_front : (xs : List Noted) (i : ℕ) (d : Noted) (found : Check) → AreRising xs → i < length xs → (get_or xs i d).number ≤ since → IsScanned reads since (drop (suc i) xs) found → IsScanned reads since xs found
  old_front [] i d found h lt le here = absurd (omega arith)
  old_front (x ∷ xs) zero d found h lt le here = let old : x.number ≤ since = le in pass x xs found (λ after. absurd (omega arith)) here
  old_front (x ∷ xs) (suc i) d found h lt le here =
      let up : x.number < (get_or xs i d).number = above_at x.number xs i d h.0 (omega arith) in
      let old : (get_or xs i d).number ≤ since = le in
      pass x xs found (λ after. absurd (omega arith)) (old_front xs i d found h.1 (omega arith) le here)

  pub old_from : (xs : List Noted) (i : ℕ) (x : Noted) (found : Check) → AreRising xs → i < length xs → x ≡ get_or xs i x → x.number ≤ since → IsScanned reads since (drop (i + 1) xs) found → IsScanned reads since xs found
  old_from xs i x found h lt is le here =
      let on : i + 1 ≡ suc i = omega arith in
      old_front xs i x found h lt (subst (λ (y : Noted). y.number ≤ since) is le) (subst (λ (j : ℕ). IsScanned reads since (drop j xs) found) on here)

  at_one : (xs : List Noted) (i : ℕ) (x : Noted) → i < length xs → x ≡ get_or xs i x → drop i xs ≡ x ∷ drop (i + 1) xs
  at_one xs i x lt is = drop_more xs i x lt ∙ ap (λ y. y ∷ drop (i + 1) xs) (sym is)

  pub one_meets : (xs : List Noted) (i : ℕ) (x : Noted) → i < length xs → x ≡ get_or xs i x → since < x.number → Meets reads x.keys → IsScanned reads since (drop i xs) (check.Conflict x.number)
  one_meets xs i x lt is after meets = subst (λ (ys : List Noted). IsFirstMeeting reads since ys x.number) (sym (at_one xs i x lt is)) (inl (refl, after, meets))

  pub none_meets : (xs : List Noted) (i : ℕ) (x : Noted) (found : Check) → i < length xs → x ≡ get_or xs i x → ¬ Meets reads x.keys → IsScanned reads since (drop (i + 1) xs) found → IsScanned reads since (drop i xs) found
  none_meets xs i x found lt is apart h = subst (λ (ys : List Noted). IsScanned reads since ys found) (sym (at_one xs i x lt is)) (pass x (drop (i + 1) xs) found (λ _. apart) h)

  pub counted_more : (xs : List Noted) (i : ℕ) (x : Noted) (n : ℕ) → i < length xs → x ≡ get_or xs i x → since < x.number → n ≤ count_after since (drop (i + 1) xs) → n + 1 ≤ count_after since (drop i xs)
  counted_more xs i x n lt is after le =
      let here : count_after since (drop i xs) ≡ cond (nat_lt since x.number) 1 0 + count_after since (drop (i + 1) xs) = ap (count_after since) (at_one xs i x lt is) in
      let more : count_after since (drop i xs) ≡ 1 + count_after since (drop (i + 1) xs) = here ∙ ap (λ b. cond b 1 0 + count_after since (drop (i + 1) xs)) (lt-ltb _ _ after) in
      omega arith

  pub counted_drop : (xs : List Noted) (i : ℕ) → count_after since (drop i xs) ≤ count_after since xs
  counted_drop xs zero = omega arith
  counted_drop [] (suc i) = omega arith
  counted_drop (x ∷ xs) (suc i) = let le = counted_drop xs i in omega arith

-- ---- numbers that rise

pub rising_more : (xs : List Noted) (x : Noted) → AreRising xs → AreBelow x.number xs → AreRising (xs ++ x ∷ [])
rising_more [] x h below = (tt, tt)
rising_more (y ∷ xs) x h below = (above_more xs h.0, rising_more xs x h.1 below.1)
  where
    above_more : (ys : List Noted) → AreAbove y.number ys → AreAbove y.number (ys ++ x ∷ [])
    above_more [] h = (below.0, tt)
    above_more (z ∷ ys) h = (h.0, above_more ys h.1)

pub rising_below : (xs : List Noted) (x : Noted) (n : ℕ) → AreRising (xs ++ x ∷ []) → x.number < n → AreBelow n (xs ++ x ∷ [])
rising_below [] x n h lt = (lt, tt)
rising_below (y ∷ xs) x n h lt = (let up = last_above xs h.0 in omega arith, rising_below xs x n h.1 lt)
  where
    last_above : (ys : List Noted) → AreAbove y.number (ys ++ x ∷ []) → y.number < x.number
    last_above [] h = h.0
    last_above (z ∷ ys) h = last_above ys h.1

-- ---- one turn of a scan, over what is kept

noted_length : (items : List KeptEntry) → length (map noted items) ≡ length items
noted_length [] = refl
noted_length (e ∷ items) = ap suc (noted_length items)

noted_at : (items : List KeptEntry) (i : ℕ) (e : KeptEntry) → i < length items → e ≡ get_or items i e → noted e ≡ get_or (map noted items) i (noted e)
noted_at items i e lt is = ap noted is ∙ at items i e lt
  where
    at : (xs : List KeptEntry) (i : ℕ) (d : KeptEntry) → i < length xs → noted (get_or xs i d) ≡ get_or (map noted xs) i (noted d)
    at [] i d lt = refl
    at (x ∷ xs) zero d lt = refl
    at (x ∷ xs) (suc i) d lt = at xs i d (omega arith)

module _ (reads : ReadSet) (since : ℕ) (items : List KeptEntry) (place : ℕ) (e : KeptEntry) (found : Check) (some : 0 < place) (within : place ≤ length items) (is : e ≡ get_or items (place - 1) e)
    (here : IsScanned reads since (drop place (map noted items)) found) where
  xs : List Noted
  xs = map noted items

  lt : place - 1 < length (map noted items)
  lt = let same = noted_length items in omega arith

  back : IsScanned reads since (drop (place - 1 + 1) (map noted items)) found
  back = let same : place ≡ place - 1 + 1 = omega arith in subst (λ (j : ℕ). IsScanned reads since (drop j (map noted items)) found) same here

  at : noted e ≡ get_or (map noted items) (place - 1) (noted e)
  at = noted_at items (place - 1) e (omega arith) is

  pub stops : AreRising (map noted items) → e.number ≤ since → IsScanned reads since (map noted items) found
  stops rising old = old_from reads since (map noted items) (place - 1) (noted e) found rising lt at old back

  pub meeting : since < e.number → Meets reads e.keys.keys → IsScanned reads since (drop (place - 1) (map noted items)) (check.Conflict e.number)
  meeting after meets = one_meets reads since (map noted items) (place - 1) (noted e) lt at after meets

  pub passing : ¬ Meets reads e.keys.keys → IsScanned reads since (drop (place - 1) (map noted items)) found
  passing apart = none_meets reads since (map noted items) (place - 1) (noted e) found lt at apart back

  pub counting : since < e.number → length items - place ≤ count_after since (drop place (map noted items)) → length items - (place - 1) ≤ count_after since (drop (place - 1) (map noted items))
  counting after low =
      let same : place ≡ place - 1 + 1 = omega arith in
      let low' : length items - place ≤ count_after since (drop (place - 1 + 1) (map noted items)) = subst (λ (j : ℕ). length items - place ≤ count_after since (drop j (map noted items))) same low in
      let more = counted_more reads since (map noted items) (place - 1) (noted e) (length items - place) lt at after low' in
      omega arith

-- ---- the last one

last_less : (xs : List Noted) (n : ℕ) (d : Noted) → AreRising xs → 0 < length xs → (get_or xs (length xs - 1) d).number < n → AreBelow n xs
last_less [] n d rising some low = absurd (omega arith)
last_less (x ∷ []) n d rising some low = (low, tt)
last_less (x ∷ y ∷ xs) n d rising some low =
    let on : length (x ∷ y ∷ xs) - 1 ≡ suc (length (y ∷ xs) - 1) = omega arith in
    let rest = last_less (y ∷ xs) n d rising.1 (omega arith) (subst (λ (i : ℕ). (get_or (x ∷ y ∷ xs) i d).number < n) on low) in
    (let up : x.number < y.number = rising.0.0 in let below : y.number < n = rest.0 in omega arith, rest)

less_at : (n : ℕ) (xs : List Noted) (i : ℕ) (d : Noted) → AreBelow n xs → i < length xs → (get_or xs i d).number < n
less_at n [] i d h lt = absurd (omega arith)
less_at n (x ∷ xs) zero d h lt = h.0
less_at n (x ∷ xs) (suc i) d h lt = less_at n xs i d h.1 (omega arith)

pub last_tells : (items : List KeptEntry) (n : ℕ) (e : KeptEntry) → AreRising (map noted items) → 0 < length items → e ≡ get_or items (length items - 1) e
    → (nat_lt e.number n ≡ true → AreBelow n (map noted items)) × (AreBelow n (map noted items) → nat_lt e.number n ≡ true)
last_tells items n e rising some is =
    let same = noted_length items in
    let here : noted e ≡ get_or (map noted items) (length items - 1) (noted e) = noted_at items (length items - 1) e (omega arith) is in
    let there : noted e ≡ get_or (map noted items) (length (map noted items) - 1) (noted e) = subst (λ (m : ℕ). noted e ≡ get_or (map noted items) (m - 1) (noted e)) (sym same) here in (
      λ low. last_less (map noted items) n (noted e) rising (omega arith) (subst (λ (x : Noted). x.number < n) there (less_from e.number n low)),
      λ below. let low : e.number < n = subst (λ (x : Noted). x.number < n) (sym there) (less_at n (map noted items) (length (map noted items) - 1) (noted e) below (omega arith)) in lt-ltb _ _ low,
    )

pub some_from : (m n : ℕ) → m ≡ n → m ≢ 0 → 0 < n
some_from m zero is some = absurd (some is)
some_from m (suc n) is some = omega arith
