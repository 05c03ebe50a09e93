-- What one read into a buffer does.
use Rattle.std.specs.Prelude.{◌≡◌, ◌<◌, ℕ, List, ◌++◌, length}
use Rattle.std.specs.Io.KnownBytes.{Appends, Consumes, IsAtEnd}
use Rattle.outer_ends.specs.Told.{SourceTold}
use Rattle.outer_ends.specs.Causes.{Rose}
use Rattle.http_framing.specs.declared.buffer.Fill.{Fill}
use Rattle.http_framing.specs.declared.buffer.Fill.TheVariants as fill

-- bytes were taken from a source, and stand at the end of the buffer
pub record Adds (old new : List ℕ) (before now : SourceTold) : Type 0 where
  pub bytes : List ℕ
  pub kept : new ≡ old ++ bytes
  pub taken_more : Appends before.taken now.taken bytes
  pub left_less : Consumes before.left now.left bytes

-- what the read found: some bytes; none, at the end of the input; or a fault, which the count tells
abbrev pub FillIs : List ℕ → List ℕ → SourceTold → SourceTold → Fill → Type 0
FillIs old new before now fill.More = (length old < length new) × (now.faults ≡ before.faults)
FillIs old new before now fill.End = (new ≡ old) × IsAtEnd now.left × (now.faults ≡ before.faults)
FillIs old new before now fill.Failed = (new ≡ old) × Rose before.faults now.faults
