use Rattle.std.proofs.Common.{◌≡◌, length}
use Rattle.http_model.specs.Framings.{comma_parts, or_text, last_part}
use Rattle.http_framing.proofs.parts.last_part.Given as goal

abbrev pub invariant-parts : goal.invariant-parts
invariant-parts l = or_text (last_part (comma_parts l.rest)) l.found ≡ last_part (comma_parts l.value)

abbrev pub decreases-parts : goal.decreases-parts
decreases-parts l = length l.rest
