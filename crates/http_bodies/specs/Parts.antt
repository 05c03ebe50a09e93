-- Bytes that move from a buffer, and a source behind it, to a body.
use Rattle.std.specs.Prelude.{◌≡◌, ◌-◌, ◌<◌, ℕ, List, [], ◌++◌, length, min, ⊤}
use Rattle.std.specs.declared.option.Option.{Option}
use Rattle.std.specs.Io.KnownBytes.{IsAtEnd}
use Rattle.outer_ends.specs.Told.{SourceTold}
use Rattle.outer_ends.specs.Causes.{Rose}
use Rattle.http_framing.specs.Fills.{Adds}
use Rattle.http_bodies.specs.declared.parts.PartEnd.{PartEnd}
use Rattle.http_bodies.specs.declared.parts.PartEnd.TheVariants as part

-- bytes moved from the front of a buffer to the end of a body that is to have n
pub record Moves (n : ℕ) (buffer buffer_now body body_now : List ℕ) : Type 0 where
  pub part : List ℕ
  pub added : body_now ≡ body ++ part
  pub dropped : buffer ≡ part ++ buffer_now
  pub size : length part ≡ min (n - length body) (length buffer)

-- bytes were taken from a source, and some moved from the front of the buffer to the end of the body
pub record Moved (body body_now buffer buffer_now : List ℕ) (before now : SourceTold) : Type 0 where
  pub part : List ℕ
  pub added : body_now ≡ body ++ part
  pub adds : Adds buffer (part ++ buffer_now) before now

-- the answer, where so many bytes were asked for and these were moved
abbrev pub PartIs : ℕ → List ℕ → List ℕ → Option (List ℕ) → PartEnd → Type 0
PartIs size moved now left part.Whole = length moved ≡ size
PartIs size moved now left part.Cut = (length moved < size) × (now ≡ []) × IsAtEnd left
PartIs size moved now left part.Fault = (length moved < size) × (now ≡ [])
PartIs size moved now left part.NoMemory = ⊤

pub record TakesPart (size : ℕ) (body body_now buffer buffer_now : List ℕ) (before now : SourceTold) (end : PartEnd) : Type 0 where
  pub moved : Moved body body_now buffer buffer_now before now
  pub verdict : PartIs size moved.part buffer_now now.left end

-- a fault is answered exactly where the count rose, or stands at the greatest `u64`
abbrev pub PartCause : SourceTold → SourceTold → PartEnd → Type 0
PartCause before now part.Fault = Rose before.faults now.faults
PartCause before now end = now.faults ≡ before.faults

-- where memory was missing, there was room for less
abbrev pub WasFull : ℕ → ℕ → PartEnd → Type 0
WasFull capacity size part.NoMemory = capacity < size
WasFull capacity size end = ⊤
