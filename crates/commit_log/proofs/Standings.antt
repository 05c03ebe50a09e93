-- A log with one more entry.
use Rattle.std.proofs.Common.{◌≡◌, ℕ, zero, suc, ◌+◌, ◌<◌, ◌≤◌, List, [], ◌∷◌, ◌++◌, length, map, refl, sym, ap, subst, ◌∙◌, arith, length-append, append_assoc, inl, inr, Some, None, Option}
use Rattle.std.specs.Prelude.{◌⊎◌}
use Rattle.std.proofs.lemmas.List.{map-append}
use Rattle.circular_buffer.specs.Buffer.{Buffer}
use Rattle.history_model.specs.Histories.{Noted}
use Rattle.history_model.specs.Standing.{Log, Keeps, Pushes, IsLastOf}
use Rattle.commit_log.specs.declared.kept.KeptEntry.{KeptEntry}
use Rattle.commit_log.specs.Keeping.{noted, AreBelow, AreRising, IsPushed}
use Rattle.commit_log.specs.Writers.{Writers, with_notes}
use Rattle.commit_log.specs.Logs.{AreTold, EachTold, IsLogged}
use Rattle.commit_log.proofs.Scans.{rising_more}
use Rattle.commit_log.proofs.Tables.{each_told_all, now_told, all_table}

-- ---- what the history knows

keeps_room : (old : Log) (x : Noted) (new : Log) (all : List Noted) → Keeps old all → new.window ≡ old.window → new.kept ≡ old.kept ++ x ∷ [] → new.dropped ≡ old.dropped → length old.kept < old.window → Keeps new (all ++ x ∷ [])
keeps_room old x new all h window kept dropped lt = record {
  old = [];
  some = let some = h.some in omega arith;
  all = ap (λ xs. xs ++ x ∷ []) (h.all ∙ ap (λ xs. xs ++ old.kept) none) ∙ sym kept;
  last = subst (λ (d : Option ℕ). IsLastOf d []) (sym dropped) (subst (IsLastOf old.dropped) none h.last);
  size = let same : length new.kept ≡ length old.kept + 1 = ap length kept ∙ length-append old.kept (x ∷ []) in omega arith;
  full = inl refl;
}
  where
    by_full : (h.old ≡ []) ⊎ (length old.kept ≡ old.window) → h.old ≡ []
    by_full (inl empty) = empty
    by_full (inr full) = absurd (omega arith)

    none : h.old ≡ []
    none = by_full h.full

keeps_full : (old : Log) (x : Noted) (new : Log) (all : List Noted) (y : Noted) (rest : List Noted) → Keeps old all → old.kept ≡ y ∷ rest → new.window ≡ old.window → new.kept ≡ rest ++ x ∷ [] → new.dropped ≡ Some y.number
    → length old.kept ≡ old.window → Keeps new (all ++ x ∷ [])
keeps_full old x new all y rest h is window kept dropped full = record {
  old = h.old ++ y ∷ [];
  some = let some = h.some in omega arith;
  all =
      ap (λ xs. xs ++ x ∷ []) (h.all ∙ ap (λ xs. h.old ++ xs) is) ∙ append_assoc h.old (y ∷ rest) (x ∷ [])
      ∙ sym (append_assoc h.old (y ∷ []) (rest ++ x ∷ [])) ∙ ap (λ xs. (h.old ++ y ∷ []) ++ xs) (sym kept);
  last = subst (λ (d : Option ℕ). IsLastOf d (h.old ++ y ∷ [])) (sym dropped) (h.old, y, refl, refl);
  size = let long = same in let fits = h.size in omega arith;
  full = inr (let long = same in omega arith);
}
  where
    same : length new.kept ≡ length old.kept
    same = let long : length old.kept ≡ suc (length rest) = ap length is in let now : length new.kept ≡ length rest + 1 = ap length kept ∙ length-append rest (x ∷ []) in omega arith

-- a number is less than another or equal to it
order_of : (m n : ℕ) → m ≤ n → (m < n) ⊎ (m ≡ n)
order_of zero zero le = inr refl
order_of zero (suc n) le = inl (omega arith)
order_of (suc m) zero le = absurd (omega arith)
order_of (suc m) (suc n) le = elim (order_of m n (omega arith)) [ inl lt ↦ inl (omega arith) | inr e ↦ inr (ap suc e) ]

pub keeps_pushed : (old : Log) (x : Noted) (new : Log) (all : List Noted) → Pushes old x new → Keeps old all → Keeps new (all ++ x ∷ [])
keeps_pushed old x new all push h = by old.kept refl
  where
    by : (kept : List Noted) → old.kept ≡ kept → Keeps new (all ++ x ∷ [])
    by [] is = let some = h.some in let none : length old.kept ≡ 0 = ap length is in let short : length old.kept < old.window = omega arith in let r = push.room short in keeps_room old x new all h push.window r.0 r.1 short
    by (y ∷ rest) is = elim (order_of (length old.kept) old.window h.size) [
      | inl short ↦ let r = push.room short in keeps_room old x new all h push.window r.0 r.1 short
      | inr full ↦ let r = push.full y rest is full in keeps_full old x new all y rest h is push.window r.0 r.1 full
    ]

-- ---- what the ring does

noted_as : (xs : List KeptEntry) (y : Noted) (rest : List Noted) → map noted xs ≡ y ∷ rest → (e : KeptEntry) × (es : List KeptEntry) × (xs ≡ e ∷ es) × (noted e ≡ y) × (map noted es ≡ rest)
noted_as [] y rest is = cc is
noted_as (e ∷ es) y rest is = (e, es, refl, cc is, cc is)

module _ (old : Buffer KeptEntry) (e : KeptEntry) (new : Buffer KeptEntry) (told before now : Option ℕ) where
  pub pushes : IsPushed old e new told → length old.items ≤ old.capacity → (told ≡ None → now ≡ before) → ((n : ℕ) → told ≡ Some n → now ≡ Some n)
      → Pushes (record { window = old.capacity; kept = map noted old.items; dropped = before }) (noted e) (record { window = new.capacity; kept = map noted new.items; dropped = now })
  pushes push fits none some = record {
    window = push.capacity;
    room = λ lt. let r = push.room (let same = length_noted old.items in omega arith) in (ap (map noted) r.0 ∙ map-append noted old.items (e ∷ []), none r.1);
    full = λ y rest is long.
        let f = noted_as old.items y rest is in
        let r = push.full f.0 f.1 f.2 (let same = length_noted old.items in omega arith) in
        (ap (map noted) r.0 ∙ map-append noted f.1 (e ∷ []) ∙ ap (λ xs. xs ++ noted e ∷ []) f.4, some (noted f.0).number r.1 ∙ ap (λ (z : Noted). Some z.number) f.3);
  }
    where
      length_noted : (xs : List KeptEntry) → length (map noted xs) ≡ length xs
      length_noted [] = refl
      length_noted (x ∷ xs) = ap suc (length_noted xs)

-- ---- the log holds what it should

told_more : (w : Writers) (xs : List Noted) (x : Noted) → EachTold w xs → AreTold w x.number x.keys → EachTold w (xs ++ x ∷ [])
told_more w [] x h here = (here, tt)
told_more w (y ∷ xs) x h here = (h.0, told_more w xs x h.1 here)

module _ (old : Buffer KeptEntry) (e : KeptEntry) (new : Buffer KeptEntry) (told : Option ℕ) (w : Writers) where
  pub logged_more : IsLogged old w → AreBelow e.number (map noted old.items) → IsPushed old e new told → IsLogged new (with_notes w e.keys.keys e.number)
  logged_more h below push = by old.items refl
    where
      now : Writers
      now = with_notes w e.keys.keys e.number

      with_items : (xs : List KeptEntry) → new.items ≡ xs ++ e ∷ [] → length xs < old.capacity → AreRising (map noted xs) → AreBelow e.number (map noted xs) → EachTold w (map noted xs) → IsLogged new now
      with_items xs is short rising less each = record {
        some = let some = h.some in let same = push.capacity in omega arith;
        fits = let same = push.capacity in let long : length new.items ≡ length xs + 1 = ap length is ∙ length-append xs (e ∷ []) in omega arith;
        table = all_table w e.keys.keys e.number h.table;
        rising = subst (λ (ys : List KeptEntry). AreRising (map noted ys)) (sym is) (subst AreRising (sym (map-append noted xs (e ∷ []))) (rising_more (map noted xs) (noted e) rising less));
        told = subst (λ (ys : List KeptEntry). EachTold now (map noted ys)) (sym is)
            (subst (EachTold now) (sym (map-append noted xs (e ∷ [])))
            (told_more now (map noted xs) (noted e) (each_told_all w e.keys.keys e.number (map noted xs) each) (now_told w e.keys.keys e.number h.table)));
      }

      by : (xs : List KeptEntry) → old.items ≡ xs → IsLogged new now
      by [] is = let none : length old.items ≡ 0 = ap length is in let some = h.some in let short : length old.items < old.capacity = omega arith in with_items old.items (push.room short).0 short h.rising below h.told
      by (first ∷ rest) is = elim (order_of (length old.items) old.capacity h.fits) [
        | inl short ↦ with_items old.items (push.room short).0 short h.rising below h.told
        | inr full ↦
            let long : length old.items ≡ suc (length rest) = ap length is in
            with_items rest (push.full first rest is full).0 (omega arith)
            (subst (λ (xs : List KeptEntry). AreRising (map noted xs)) is h.rising).1
            (subst (λ (xs : List KeptEntry). AreBelow e.number (map noted xs)) is below).1
            (subst (λ (xs : List KeptEntry). EachTold w (map noted xs)) is h.told).1
      ]

pub none_some : (n : ℕ) → None ≡ Some n → ⊥
none_some n e = cc e
