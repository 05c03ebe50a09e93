-- What was seen over several reads.
use Rattle.std.proofs.Common.{◌≡◌, ℕ, ◌<◌, List, ◌++◌, length, refl, sym, ap, subst, ◌∙◌, arith, append_assoc, append-nil, take_all, length-append}
use Rattle.std.specs.declared.option.Option.{Option}
use Rattle.std.specs.Prelude.{IfSome, None, Some}
use Rattle.std.specs.Io.KnownBytes.{Consumes}
use Rattle.outer_ends.specs.Told.{SourceTold}
use Rattle.http_model.specs.Heads.{front, IsOpen}
use Rattle.http_model.specs.Rests.{IsBetweenMessages}
use Rattle.http_model.specs.Laws.{ReadStays}
use Rattle.http_framing.specs.declared.heads.HeadEnd.{HeadEnd}
use Rattle.http_framing.specs.declared.heads.HeadEnd.TheVariants as head
use Rattle.http_framing.specs.Fills.{Adds}
use Rattle.http_framing.specs.Taken.{TakesHead, VerdictOn, HeadOfRest}
use Rattle.http_messages.specs.declared.limits.TheConstants.{HEAD_LIMIT}

pub takes_of : (old now new : List ℕ) (t u : SourceTold) (end : HeadEnd) → Adds old now t u → VerdictOn now u.left new end → TakesHead old new t u end
takes_of old now new t u end p v = record {
  bytes = p.bytes;
  taken_more = p.taken_more;
  left_less = p.left_less;
  verdict = subst (λ (x : List ℕ). VerdictOn x u.left new end) p.kept v;
}

-- fewer bytes than the limit are their own front
pub front_short : (xs : List ℕ) → length xs < HEAD_LIMIT → front xs ≡ xs
front_short xs h = take_all HEAD_LIMIT xs (omega arith)

-- bytes that are open and fewer than the limit
pub open_short : (b : List ℕ) → IsOpen (front b) → length b < HEAD_LIMIT → IsOpen b
open_short b h short = subst IsOpen (front_short b short) h

-- ---- by all that is left

rest_of_seen : ReadStays → (seen y now : List ℕ) (end : HeadEnd) → VerdictOn seen (Some y) now end → HeadOfRest (seen ++ y) now (Some y) end
rest_of_seen stays seen y now (head.Head m) v = stays.whole_head seen y m now v
rest_of_seen stays seen y now head.Bad v = (stays.never_front seen y v.1, refl, refl)
rest_of_seen stays seen y now head.TooLarge v = (omega (arith, length-append seen y, v.1), stays.open_front seen y v.1 v.2, refl, refl)
rest_of_seen stays seen y now head.TooMany v = (v.1, v.2 ++ y, stays.head seen y v.1 v.2 v.3, v.4, v.5, refl, refl)
rest_of_seen stays seen y now head.End v =
    let same : seen ≡ seen ++ y = sym (append-nil seen) ∙ ap (λ (l : List ℕ). seen ++ l) (sym v.1) in
    subst IsBetweenMessages same v.2
rest_of_seen stays seen y now head.CutShort v =
    let same : seen ≡ seen ++ y = sym (append-nil seen) ∙ ap (λ (l : List ℕ). seen ++ l) (sym v.1) in
    subst (λ (l : List ℕ). HeadOfRest l now (Some y) head.CutShort) same (v.2, v.3, v.4)
rest_of_seen stays seen y now head.ReadFault v = tt
rest_of_seen stays seen y now head.NoMemory v = tt

rest_of_told : ReadStays → (old now bytes : List ℕ) (left left_now : Option (List ℕ)) (end : HeadEnd) → Consumes left left_now bytes → VerdictOn (old ++ bytes) left_now now end
    → IfSome left (λ all. HeadOfRest (old ++ all) now left_now end)
rest_of_told stays old now bytes None left_now end less v = tt
rest_of_told stays old now bytes (Some x) None end less v = absurd less
rest_of_told stays old now bytes (Some x) (Some y) end less v =
    subst (λ (l : List ℕ). HeadOfRest l now (Some y) end) (append_assoc old bytes y ∙ ap (λ (l : List ℕ). old ++ l) (sym less))
    (rest_of_seen stays (old ++ bytes) y now end v)

pub rest_of : ReadStays → (old now : List ℕ) (t u : SourceTold) (end : HeadEnd) → TakesHead old now t u end → IfSome t.left (λ left. HeadOfRest (old ++ left) now u.left end)
rest_of stays old now t u end h = rest_of_told stays old now h.bytes t.left u.left end h.left_less h.verdict
