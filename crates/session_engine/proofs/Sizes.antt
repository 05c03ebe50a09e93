-- A head that breaks no rule frames a body within the limit.
use Rattle.std.proofs.Common.{◌≡◌, ℕ, ◌≤◌, Bool, true, false, Ok, Err, Result, refl, sym, subst}
use Rattle.std.specs.Prelude.{not, ◌&&◌, nat_lt, if◌then◌else◌, ⊤}
use Rattle.std.proofs.lemmas.Bool.{false≢true, ltb-false}
use Rattle.http_messages.specs.declared.messages.Message.{Message}
use Rattle.http_messages.specs.declared.framings.Framing.{Framing}
use Rattle.http_messages.specs.declared.framings.Framing.TheVariants.{Empty, Length, Chunked}
use Rattle.http_messages.specs.declared.framings.HeadFault.{HeadFault}
use Rattle.http_messages.specs.declared.framings.HeadFault.TheVariants.{Host, TwoFramings, BadCoding, UnknownCoding, BadLength, LongBody, Expectation}
use Rattle.http_model.specs.Framings.{codings_of, lengths_of, is_none, size_of, breaks_host, has_two_framings, has_bad_coding, has_unknown_coding, has_bad_length, has_other_expectation, framing_of}
use Rattle.http_messages.specs.declared.limits.TheConstants.{BODY_LIMIT}
use Rattle.http_bodies.specs.Body.{FitsBodyLimit}

abbrev Fits : Result Framing HeadFault → Type 0
Fits (Ok framing) = FitsBodyLimit framing
Fits (Err fault) = ⊤

fault_or : (breaks : Bool) (fault : HeadFault) (r : Result Framing HeadFault) → Fits r → Fits (if breaks then Err fault else r)
fault_or true fault r h = tt
fault_or false fault r h = h

framed : (codings none : Bool) (n : ℕ) → (none ≡ false → n ≤ BODY_LIMIT) → FitsBodyLimit (if codings then Chunked else (if none then Empty else Length n))
framed true none n h = tt
framed false true n h = tt
framed false false n h = h refl

-- a length above the limit is refused
sized : (codings none over other : Bool) (n : ℕ) → nat_lt BODY_LIMIT n ≡ over
    → Fits (if (not none && over) then Err LongBody else (if other then Err Expectation else Ok (if codings then Chunked else (if none then Empty else Length n))))
sized codings none over true n e = fault_or (not none && over) LongBody (Err Expectation) tt
sized codings true over false n e = framed codings true n (λ h. absurd (false≢true (sym h)))
sized codings false true false n e = tt
sized codings false false false n e = framed codings false n (λ h. ltb-false BODY_LIMIT n e)

result_fits : (m : Message) → Fits (framing_of m)
unfolding framing_of
result_fits m =
    fault_or (breaks_host m) Host _ (fault_or (has_two_framings m) TwoFramings _ (fault_or (has_bad_coding m) BadCoding _
    (fault_or (has_unknown_coding m) UnknownCoding _ (fault_or (has_bad_length m) BadLength _
    (sized (not (is_none (codings_of m))) (is_none (lengths_of m)) (nat_lt BODY_LIMIT (size_of (lengths_of m))) (has_other_expectation m) (size_of (lengths_of m)) refl)))))

pub framing_fits : (m : Message) (framing : Framing) → framing_of m ≡ Ok framing → FitsBodyLimit framing
framing_fits m framing e = subst Fits e (result_fits m)
