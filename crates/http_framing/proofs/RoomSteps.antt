-- The bytes in use of a room, as they are read and used.
use Rattle.std.proofs.Common.{◌≡◌, ℕ, ◌+◌, ◌-◌, ◌≤◌, min, List, [], ◌∷◌, zero, suc, ◌++◌, length, take, drop, None, Some, sym, ap, ◌∙◌, arith, length-take, length-drop, append-nil, length-append, drop_of_length-le}
use Rattle.std.proofs.lemmas.List.{drop-take, drop-drop}
use Rattle.std.proofs.Math.Seq.{take-add}
use Rattle.std.proofs.lemmas.List.{with_items_is}
use Rattle.std.specs.Vec.{with_items}
use Rattle.std.specs.declared.vec.Vec.{Vec}
use Rattle.std.specs.List.{slice_range}
use Rattle.std.specs.declared.option.Option.{Option}
use Rattle.std.specs.Io.KnownBytes.{Keeps, Appends, Consumes}
use Rattle.outer_ends.specs.StreamLaws.{appends_none, appends_kept}

-- the first bytes in use are let go
pub used_less : (room : List ℕ) (s e n : ℕ) → s + n ≤ e → slice_range room (s + n) e ≡ drop n (slice_range room s e)
used_less room s e n h =
    let all : e - s ≡ n + (e - (s + n)) = omega arith in
    sym (ap (λ (k : ℕ). drop n (take k (drop s room))) all ∙ drop-take n (e - (s + n)) (drop s room) ∙ ap (take (e - (s + n))) (drop-drop n s room))

-- the bytes in use are the same where the room is the same up to their end
pub used_same : (old new : List ℕ) (s e : ℕ) → s ≤ e → take e new ≡ take e old → slice_range new s e ≡ slice_range old s e
used_same old new s e ordered same = sym (front new) ∙ ap (drop s) same ∙ front old
  where
    front : (room : List ℕ) → drop s (take e room) ≡ slice_range room s e
    front room =
        let whole : e ≡ s + (e - s) = omega arith in
        ap (λ (k : ℕ). drop s (take k room)) whole ∙ drop-take s (e - s) room

-- n bytes were read behind those in use
pub used_more : (old new : List ℕ) (s e n : ℕ) → s ≤ e → take e new ≡ take e old → slice_range new s (e + n) ≡ slice_range old s e ++ take n (drop e new)
used_more old new s e n ordered same =
    let count : e + n - s ≡ (e - s) + n = omega arith in
    let on : s + (e - s) ≡ e = omega arith in
    ap (λ (k : ℕ). take k (drop s new)) count ∙ take-add (e - s) n (drop s new)
    ∙ ap (λ (l : List ℕ). slice_range new s e ++ take n l) (drop-drop (e - s) s new ∙ ap (λ (k : ℕ). drop k new) on)
    ∙ ap (λ (l : List ℕ). l ++ take n (drop e new)) (used_same old new s e ordered same)

-- the room after a read behind its first bytes
pub room_after : {Z : Type 0} (v : Vec ℕ Z) (room read : List ℕ) (e : ℕ) → room ≡ v.items → length read ≡ length room - e → e ≤ length room
    → (with_items v (take e room ++ (read ++ drop (e + (length room - e)) room))).items ≡ take e v.items ++ read
room_after v room read e same size within =
    let tail : List ℕ = drop (e + (length room - e)) room in
    let whole : length (take e room ++ (read ++ tail)) ≡ v.len =
    omega (arith, v.ok.0, ap length same, length-take e room, length-append (take e room) (read ++ tail), length-append read tail, length-drop (e + (length room - e)) room) in
    let none : tail ≡ [] = drop_of_length-le room (omega arith) in
    with_items_is v (take e room ++ (read ++ tail)) whole
    ∙ ap (λ (l : List ℕ). take e room ++ (read ++ l)) none
    ∙ ap (λ (l : List ℕ). take e room ++ l) (append-nil read)
    ∙ ap (λ (l : List ℕ). take e l ++ read) same

-- where a fault kept what is known, nothing was taken
pub appends_nothing : (t u : Option (List ℕ)) → Keeps t u → Appends t u []
appends_nothing t u h = appends_kept t t u [] (appends_none t) h

pub consumes_nothing : (t u : Option (List ℕ)) → Keeps t u → Consumes t u []
consumes_nothing None u h = tt
consumes_nothing (Some x) None h = absurd h
consumes_nothing (Some x) (Some y) h = sym h

take_both : (m n : ℕ) (xs : List ℕ) → take (min m n) xs ≡ take m (take n xs)
take_both zero n xs = let none : min zero n ≡ zero = omega arith in ap (λ (k : ℕ). take k xs) none
take_both (suc m) zero xs = let none : min (suc m) zero ≡ zero = omega arith in ap (λ (k : ℕ). take k xs) none
take_both (suc m) (suc n) [] = let one : min (suc m) (suc n) ≡ suc (min m n) = omega arith in ap (λ (k : ℕ). take {A = ℕ} k []) one
take_both (suc m) (suc n) (x ∷ xs) =
    let one : min (suc m) (suc n) ≡ suc (min m n) = omega arith in
    ap (λ (k : ℕ). take k (x ∷ xs)) one ∙ ap (λ (l : List ℕ). x ∷ l) (take_both m n xs)

-- the front of the bytes in use
pub used_front : (limit : ℕ) (room : List ℕ) (s e : ℕ) → s ≤ e → slice_range room s (min e (s + limit)) ≡ take limit (slice_range room s e)
used_front limit room s e ordered =
    let count : min e (s + limit) - s ≡ min limit (e - s) = omega arith in
    ap (λ (k : ℕ). take k (drop s room)) count ∙ take_both limit (e - s) (drop s room)
