-- Numbers of the entries in a log, on plain values.
use Rattle.std.proofs.Common.{◌≡◌, ℕ, ◌+◌, ◌<◌, ◌≤◌, ◌⊎◌, List, [], ◌∷◌, ◌++◌, length, refl, sym, ap, subst, ◌∙◌, arith, inl, inr, zero, suc}
use Rattle.history_model.specs.Histories.{Noted}
use Rattle.history_model.specs.Standing.{Log, Pushes}
use Rattle.commit_log.specs.Keeping.{AreBelow}
use Rattle.commit_core.specs.Tallies.{IsTallied}

below_more : (n : ℕ) (xs : List Noted) → AreBelow n xs → AreBelow (n + 1) xs
below_more n [] below = tt
below_more n (x ∷ xs) below = (let low = below.0 in omega arith, below_more n xs below.1)

below_last : (n : ℕ) (xs : List Noted) (x : Noted) → AreBelow n xs → x.number < n → AreBelow n (xs ++ x ∷ [])
below_last n [] x below low = (low, tt)
below_last n (y ∷ xs) x below low = (below.0, below_last n xs x below.1 low)

length_last : (xs : List Noted) (x : Noted) → length (xs ++ x ∷ []) ≡ length xs + 1
length_last [] x = refl
length_last (y ∷ xs) x = let rest = length_last xs x in omega (arith, rest)

room_or_full : (n window : ℕ) → n ≤ window → (n < window) ⊎ (n ≡ window)
room_or_full zero zero low = inr refl
room_or_full zero (suc window) low = inl (omega arith)
room_or_full (suc n) zero low = absurd (omega arith)
room_or_full (suc n) (suc window) low = more (room_or_full n window (omega arith))
  where
    more : (n < window) ⊎ (n ≡ window) → (suc n < suc window) ⊎ (suc n ≡ suc window)
    more (inl less) = inl (omega arith)
    more (inr same) = inr (ap suc same)

-- a log whose numbers are at most the count takes the entry after it
module _ (count : ℕ) (old new : Log) (x : Noted) (tallied : IsTallied count old) (is : x.number ≡ count + 1) (pushes : Pushes old x new) where
  low : x.number < count + 1 + 1
  low = omega (arith, is)

  -- behind some of the old entries
  behind : (kept : List Noted) → AreBelow (count + 1) kept → length kept < old.window → new.kept ≡ kept ++ x ∷ [] → IsTallied (count + 1) new
  behind kept below short same = record {
    below = subst (AreBelow (count + 1 + 1)) (sym same) (below_last (count + 1 + 1) kept x (below_more (count + 1) kept below) low);
    some = subst (λ n. 0 < n) (sym pushes.window) tallied.some;
    fits = subst (λ n. length new.kept ≤ n) (sym pushes.window) (subst (λ n. n ≤ old.window) (sym (ap length same ∙ length_last kept x)) (omega arith));
  }

  by_room : (y : Noted) (rest : List Noted) → old.kept ≡ y ∷ rest → (length old.kept < old.window) ⊎ (length old.kept ≡ old.window) → IsTallied (count + 1) new
  by_room y rest is_list (inl short) = behind old.kept tallied.below short (pushes.room short).0
  by_room y rest is_list (inr full) =
      let below : AreBelow (count + 1) (y ∷ rest) = subst (AreBelow (count + 1)) is_list tallied.below in
      let l : suc (length rest) ≡ old.window = sym (ap length is_list) ∙ full in
      let long : length rest + 1 ≡ old.window = omega (arith, l) in
      behind rest below.1 (omega arith) (pushes.full y rest is_list full).0

  by_kept : (kept : List Noted) → old.kept ≡ kept → IsTallied (count + 1) new
  by_kept [] is_list =
      let short : length old.kept < old.window = subst (λ (l : List Noted). length l < old.window) (sym is_list) tallied.some in
      behind old.kept tallied.below short (pushes.room short).0
  by_kept (y ∷ rest) is_list = by_room y rest is_list (room_or_full (length old.kept) old.window tallied.fits)

  pub tallied_more : IsTallied (count + 1) new
  tallied_more = by_kept old.kept refl

-- the same log at a greater count
pub tallied_still : (count : ℕ) (log : Log) → IsTallied count log → IsTallied (count + 1) log
tallied_still count log tallied = record { below = below_more (count + 1) log.kept tallied.below; some = tallied.some; fits = tallied.fits }
