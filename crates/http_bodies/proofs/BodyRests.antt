-- A body by all that is left.
use Rattle.std.proofs.Common.{◌≡◌, ℕ, List, ◌++◌, sym, ap, subst, ◌∙◌, append_assoc, append-nil}
use Rattle.std.specs.declared.option.Option.{Option}
use Rattle.std.specs.Prelude.{IfSome, None, Some}
use Rattle.std.specs.Io.KnownBytes.{Consumes}
use Rattle.outer_ends.specs.Told.{SourceTold}
use Rattle.http_messages.specs.declared.framings.Framing.{Framing}
use Rattle.http_model.specs.Laws.{ReadStays}
use Rattle.http_model.specs.Bodies.{IsCutBody}
use Rattle.http_bodies.specs.declared.bodies.BodyEnd.{BodyEnd}
use Rattle.http_bodies.specs.declared.bodies.BodyEnd.TheVariants as found
use Rattle.http_bodies.specs.Body.{BodyOn, TakesBody, BodyOfRest}

rest_of_seen : ReadStays → (framing : Framing) (seen y now : List ℕ) (end : BodyEnd) → BodyOn framing seen (Some y) now end → BodyOfRest framing (seen ++ y) now (Some y) end
rest_of_seen stays framing seen y now (found.Body b) v = stays.body framing seen y b now v
rest_of_seen stays framing seen y now found.CutShort v =
    let same : seen ≡ seen ++ y = sym (append-nil seen) ∙ ap (λ (l : List ℕ). seen ++ l) (sym v.0) in
    subst (IsCutBody framing) same v.1
rest_of_seen stays framing seen y now (found.BadChunk place) v = (v.0, stays.bad_chunk seen y place v.1)
rest_of_seen stays framing seen y now found.TooLarge v = (v.0, stays.large_body seen y v.1)
rest_of_seen stays framing seen y now found.ReadFault v = tt
rest_of_seen stays framing seen y now found.NoMemory v = tt

rest_of_told : ReadStays → (framing : Framing) (old now bytes : List ℕ) (left left_now : Option (List ℕ)) (end : BodyEnd) → Consumes left left_now bytes
    → BodyOn framing (old ++ bytes) left_now now end → IfSome left (λ all. BodyOfRest framing (old ++ all) now left_now end)
rest_of_told stays framing old now bytes None left_now end less v = tt
rest_of_told stays framing old now bytes (Some x) None end less v = absurd less
rest_of_told stays framing old now bytes (Some x) (Some y) end less v =
    subst (λ (l : List ℕ). BodyOfRest framing l now (Some y) end) (append_assoc old bytes y ∙ ap (λ (l : List ℕ). old ++ l) (sym less))
    (rest_of_seen stays framing (old ++ bytes) y now end v)

pub rest_of : ReadStays → (framing : Framing) (old now : List ℕ) (t u : SourceTold) (end : BodyEnd) → TakesBody framing old now t u end
    → IfSome t.left (λ left. BodyOfRest framing (old ++ left) now u.left end)
rest_of stays framing old now t u end h = rest_of_told stays framing old now h.bytes t.left u.left end h.left_less h.verdict
