-- A ring with one more entry.
use Rattle.std.proofs.Common.{◌≡◌, ℕ, suc, ◌-◌, ◌<◌, ◌≤◌, List, [], ◌∷◌, ◌++◌, false, length, drop, ap, ◌∙◌, None, Option, arith, length-append, inl, inr}
use Rattle.std.specs.Prelude.{if◌then◌else◌, nat_lt, slice_get, option_map}
use Rattle.std.proofs.lemmas.Bool.{lt-ltb}
use Rattle.std.proofs.lemmas.Bool.Decides.{leb_tells}
use Rattle.circular_buffer.specs.Buffer.{Buffer, buffer, keep_last}
use Rattle.commit_log.specs.declared.kept.KeptEntry.{KeptEntry}
use Rattle.commit_log.specs.Keeping.{IsPushed}

room_items : (xs : List KeptEntry) (e : KeptEntry) (n : ℕ) → length xs < n → keep_last n (xs ++ e ∷ []) ≡ xs ++ e ∷ []
room_items xs e n lt = let none : length (xs ++ e ∷ []) - n ≡ 0 = omega (arith, length-append xs (e ∷ [])) in ap (λ i. drop i (xs ++ e ∷ [])) none

full_items : (xs : List KeptEntry) (e : KeptEntry) (n : ℕ) (first : KeptEntry) (rest : List KeptEntry) → xs ≡ first ∷ rest → length xs ≡ n → keep_last n (xs ++ e ∷ []) ≡ rest ++ e ∷ []
full_items xs e n first rest is long =
    let one : length (xs ++ e ∷ []) - n ≡ 1 = omega (arith, length-append xs (e ∷ [])) in
    ap (λ i. drop i (xs ++ e ∷ [])) one ∙ ap (λ ys. drop 1 (ys ++ e ∷ [])) is

not_less : (m n : ℕ) → m ≡ n → nat_lt m n ≡ false
not_less m n is = elim (leb_tells (suc m) n) [ inl h ↦ absurd (let lt : suc m ≤ n = h.1 in omega arith) | inr h ↦ h.0 ]

module _ (old : Buffer KeptEntry) (e : KeptEntry) (new : Buffer KeptEntry) (out : Option KeptEntry) (dropped : Option ℕ) where
  pub is_pushed : new ≡ buffer (keep_last old.capacity (old.items ++ e ∷ [])) old.capacity
      → out ≡ (if nat_lt (length old.items) old.capacity then None else slice_get (old.items ++ e ∷ []) 0) → dropped ≡ option_map (λ (x : KeptEntry). x.number) out → IsPushed old e new dropped
  is_pushed is value told = record {
    capacity = ap (λ (b : Buffer KeptEntry). b.capacity) is;
    room = λ lt. (
      ap (λ (b : Buffer KeptEntry). b.items) is ∙ room_items old.items e old.capacity lt,
      told ∙ ap (option_map (λ (x : KeptEntry). x.number)) (value ∙ ap (λ b. if b then None else slice_get (old.items ++ e ∷ []) 0) (lt-ltb _ _ lt)),
    );
    full = λ first rest these long. (
      ap (λ (b : Buffer KeptEntry). b.items) is ∙ full_items old.items e old.capacity first rest these long,
      told ∙ ap (option_map (λ (x : KeptEntry). x.number)) (value ∙ ap (λ b. if b then None else slice_get (old.items ++ e ∷ []) 0) (not_less _ _ long) ∙ ap (λ xs. slice_get (xs ++ e ∷ []) 0) these),
    );
  }
