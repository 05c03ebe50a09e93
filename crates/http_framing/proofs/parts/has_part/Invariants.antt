use Rattle.std.proofs.Common.{◌≡◌, length}
use Rattle.std.specs.List.{list_any}
use Rattle.httparse.specs.Grammar.{trim_ows}
use Rattle.http_model.specs.Framings.{comma_parts, same_in_any_case}
use Rattle.http_framing.proofs.parts.has_part.Given as goal

abbrev pub invariant-parts : goal.invariant-parts
invariant-parts l = list_any (λ o. same_in_any_case (trim_ows o) l.word) (comma_parts l.rest) ≡ list_any (λ o. same_in_any_case (trim_ows o) l.word) (comma_parts l.value)

abbrev pub decreases-parts : goal.decreases-parts
decreases-parts l = length l.rest
