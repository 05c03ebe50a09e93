-- A trailer section at the front of a buffer (RFC 9112, section 7.1.2).
use Rattle.std.specs.Prelude.{◌≡◌, ◌<◌, ◌≤◌, ℕ, List, length, drop}
use Rattle.std.specs.declared.option.Option.{Option}
use Rattle.std.specs.Io.KnownBytes.{IsAtEnd}
use Rattle.outer_ends.specs.Told.{SourceTold}
use Rattle.outer_ends.specs.Causes.{Rose}
use Rattle.http_model.specs.Bodies.{TakesTrailers, IsBadTrailers}
use Rattle.http_framing.specs.Sections.{IsOpenSection}
use Rattle.http_bodies.specs.declared.trailers.TrailersEnd.{TrailersEnd}
use Rattle.http_bodies.specs.declared.trailers.TrailersEnd.TheVariants as end
use Rattle.http_messages.specs.declared.limits.TheConstants.{TRAILER_LIMIT}

-- the answer, where the buffer holds these bytes
abbrev pub TrailersOn : List ℕ → Option (List ℕ) → TrailersEnd → Type 0
TrailersOn buffer left (end.Trailers len) = (len ≤ length buffer) × TakesTrailers buffer (drop len buffer)
TrailersOn buffer left end.Bad = IsBadTrailers buffer
TrailersOn buffer left end.Cut = (length buffer < TRAILER_LIMIT) × IsOpenSection buffer × IsAtEnd left
TrailersOn buffer left end.Fault = (length buffer < TRAILER_LIMIT) × IsOpenSection buffer

-- a fault is answered exactly where the count rose, or stands at the greatest `u64`
abbrev pub TrailersCause : SourceTold → SourceTold → TrailersEnd → Type 0
TrailersCause before now end.Fault = Rose before.faults now.faults
TrailersCause before now e = now.faults ≡ before.faults
