-- Loops that look for one item, or see that there is none.
use Rattle.std.proofs.Common.{◌≡◌, ℕ, zero, suc, ◌+◌, ◌<◌, ◌≤◌, List, [], ◌∷◌, Bool, true, false, length, get_or, drop, refl, sym, ap, subst, ◌∙◌, arith}
use Rattle.std.specs.Prelude.{◌||◌, nat_lt}
use Rattle.std.proofs.lemmas.Bool.Decides.{nat_tests}
use Rattle.std.specs.List.{list_any}
use Rattle.std.proofs.lemmas.List.{drop_more}
use Rattle.world_cells.specs.declared.keys.CellKey.{CellKey}
use Rattle.world_cells.specs.declared.sets.Part.{Part}
use Rattle.commit_log.specs.Writers.{Writers, last_number, last_number_in, KeysAreOld, PartsAreOld, with_note, with_notes}

pub drop_all : {A : Type 0} (xs : List A) (n : ℕ) → length xs ≤ n → drop n xs ≡ []
drop_all [] zero le = refl
drop_all [] (suc n) le = refl
drop_all (x ∷ xs) zero le = absurd (omega arith)
drop_all (x ∷ xs) (suc n) le = drop_all xs n (omega arith)

pub at_one : {A : Type 0} (xs : List A) (i : ℕ) (x : A) → i < length xs → x ≡ get_or xs i x → drop i xs ≡ x ∷ drop (i + 1) xs
at_one xs i x lt is = drop_more xs i x lt ∙ ap (λ y. y ∷ drop (i + 1) xs) (sym is)

-- ---- one that passes a test

module _ {A : Type 0} (p : A → Bool) (xs : List A) where
  pub any_found : (i : ℕ) (x : A) → i < length xs → x ≡ get_or xs i x → p x ≡ true → list_any p xs ≡ list_any p (drop i xs) → list_any p xs ≡ true
  any_found i x lt is here same = same ∙ ap (list_any p) (at_one xs i x lt is) ∙ ap (λ b. b || list_any p (drop (i + 1) xs)) here

  pub any_on : (i : ℕ) (x : A) → i < length xs → x ≡ get_or xs i x → p x ≡ false → list_any p xs ≡ list_any p (drop i xs) → list_any p xs ≡ list_any p (drop (i + 1) xs)
  any_on i x lt is here same = same ∙ ap (list_any p) (at_one xs i x lt is) ∙ ap (λ b. b || list_any p (drop (i + 1) xs)) here

  pub any_end : (i : ℕ) → length xs ≤ i → list_any p xs ≡ list_any p (drop i xs) → list_any p xs ≡ false
  any_end i le same = same ∙ ap (list_any p) (drop_all xs i le)

-- ---- last writers that are old

module _ (w : Writers) (since : ℕ) where
  key_at : (keys : List CellKey) (i : ℕ) (d : CellKey) → i < length keys → KeysAreOld w keys since → last_number w (get_or keys i d) ≤ since
  key_at [] i d lt h = absurd (omega arith)
  key_at (k ∷ keys) zero d lt h = h.0
  key_at (k ∷ keys) (suc i) d lt h = key_at keys i d (omega arith) h.1

  pub key_late : (keys : List CellKey) (i : ℕ) (k : CellKey) → i < length keys → k ≡ get_or keys i k → since < last_number w k → ¬ KeysAreOld w keys since
  key_late keys i k lt is late h = let old : last_number w k ≤ since = subst (λ (j : CellKey). last_number w j ≤ since) (sym is) (key_at keys i k lt h) in omega arith

  pub key_on : (keys : List CellKey) (i : ℕ) (k : CellKey) → i < length keys → k ≡ get_or keys i k → last_number w k ≤ since → KeysAreOld w (drop (i + 1) keys) since → KeysAreOld w (drop i keys) since
  key_on keys i k lt is old h = subst (λ (ks : List CellKey). KeysAreOld w ks since) (sym (at_one keys i k lt is)) (old, h)

  part_at : (parts : List Part) (i : ℕ) (d : Part) → i < length parts → PartsAreOld w parts since → last_number_in w (get_or parts i d).span ≤ since
  part_at [] i d lt h = absurd (omega arith)
  part_at (p ∷ parts) zero d lt h = h.0
  part_at (p ∷ parts) (suc i) d lt h = part_at parts i d (omega arith) h.1

  pub part_late : (parts : List Part) (i : ℕ) (p : Part) → i < length parts → p ≡ get_or parts i p → since < last_number_in w p.span → ¬ PartsAreOld w parts since
  part_late parts i p lt is late h = let old : last_number_in w p.span ≤ since = subst (λ (q : Part). last_number_in w q.span ≤ since) (sym is) (part_at parts i p lt h) in omega arith

  pub part_on : (parts : List Part) (i : ℕ) (p : Part) → i < length parts → p ≡ get_or parts i p → last_number_in w p.span ≤ since → PartsAreOld w (drop (i + 1) parts) since → PartsAreOld w (drop i parts) since
  part_on parts i p lt is old h = subst (λ (ps : List Part). PartsAreOld w ps since) (sym (at_one parts i p lt is)) (old, h)

  pub keys_end : (keys : List CellKey) (i : ℕ) → length keys ≤ i → KeysAreOld w (drop i keys) since
  keys_end keys i le = subst (λ (ks : List CellKey). KeysAreOld w ks since) (sym (drop_all keys i le)) tt

  pub parts_end : (parts : List Part) (i : ℕ) → length parts ≤ i → PartsAreOld w (drop i parts) since
  parts_end parts i le = subst (λ (ps : List Part). PartsAreOld w ps since) (sym (drop_all parts i le)) tt

-- ---- notes

pub notes_on : (w now : Writers) (keys : List CellKey) (n i : ℕ) (k : CellKey) → i < length keys → k ≡ get_or keys i k → with_notes w keys n ≡ with_notes now (drop i keys) n → with_notes w keys n ≡ with_notes (with_note now k n) (drop (i + 1) keys) n
notes_on w now keys n i k lt is same = same ∙ ap (λ ks. with_notes now ks n) (at_one keys i k lt is)

pub notes_end : (w now : Writers) (keys : List CellKey) (n i : ℕ) → length keys ≤ i → with_notes w keys n ≡ with_notes now (drop i keys) n → now ≡ with_notes w keys n
notes_end w now keys n i le same = sym (same ∙ ap (λ ks. with_notes now ks n) (drop_all keys i le))

-- ---- tests of numbers

pub less_from : (m n : ℕ) → nat_lt m n ≡ true → m < n
less_from m n e = grind (arith, nat_tests)
