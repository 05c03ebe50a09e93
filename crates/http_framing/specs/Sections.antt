-- A section of fields at the front of a buffer (RFC 9112, sections 5 and 7.1.2).
use Rattle.std.specs.Prelude.{◌≤◌, ℕ, List, length, take, drop}
use Rattle.httparse.specs.Grammar.{HasNoSection, NeverHasSection, MayBecomeSection}
use Rattle.http_model.specs.Bodies.{TakesTrailers}
use Rattle.http_framing.specs.declared.sections.Section.{Section}
use Rattle.http_framing.specs.declared.sections.Section.TheVariants as kind
use Rattle.http_messages.specs.declared.limits.TheConstants.{TRAILER_LIMIT}

-- no section begins the bytes, and one still can
pub record IsOpenSection (bytes : List ℕ) : Type 0 where
  pub none : HasNoSection bytes
  pub may : MayBecomeSection bytes

-- what stands at the front of a buffer, by its first bytes
abbrev pub SectionIs : List ℕ → Section → Type 0
SectionIs buffer (kind.Whole len) = (len ≤ length buffer) × TakesTrailers buffer (drop len buffer)
SectionIs buffer kind.Open = IsOpenSection (take TRAILER_LIMIT buffer)
SectionIs buffer kind.Never = HasNoSection (take TRAILER_LIMIT buffer) × NeverHasSection (take TRAILER_LIMIT buffer)
