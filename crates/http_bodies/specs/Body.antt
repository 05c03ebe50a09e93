-- What a call that takes a body leaves, and what it answers, by the bytes that it has seen: those that the
-- buffer held before the call, and those that it read.
use Rattle.std.specs.Prelude.{◌≡◌, ◌≤◌, ℕ, List, ◌++◌, IfSome, ⊤}
use Rattle.std.specs.declared.option.Option.{Option}
use Rattle.std.specs.Io.KnownBytes.{Appends, Consumes, IsAtEnd}
use Rattle.outer_ends.specs.Told.{SourceTold}
use Rattle.outer_ends.specs.Causes.{Rose}
use Rattle.http_messages.specs.declared.framings.Framing.{Framing}
use Rattle.http_messages.specs.declared.framings.Framing.TheVariants.{Empty, Length, Chunked}
use Rattle.http_model.specs.Bodies.{ReadsBody, IsCutBody, IsBadChunked, IsLargeChunked}
use Rattle.http_bodies.specs.declared.bodies.BodyEnd.{BodyEnd}
use Rattle.http_bodies.specs.declared.bodies.BodyEnd.TheVariants as body
use Rattle.http_messages.specs.declared.limits.TheConstants.{BODY_LIMIT}

-- a length is within the limit (of this project)
abbrev pub FitsBodyLimit : Framing → Type 0
FitsBodyLimit Empty = ⊤
FitsBodyLimit (Length n) = n ≤ BODY_LIMIT
FitsBodyLimit Chunked = ⊤

-- what stays where memory was missing: of a body of a given length all that was seen; of chunks nothing is promised
abbrev pub Stays : Framing → List ℕ → List ℕ → Type 0
Stays Empty seen now = ⊥
Stays (Length n) seen now = now ≡ seen
Stays Chunked seen now = ⊤

-- the answer, where these bytes were seen, and now these are left in the source and those in the buffer
abbrev pub BodyOn : Framing → List ℕ → Option (List ℕ) → List ℕ → BodyEnd → Type 0
BodyOn framing seen left now (body.Body b) = ReadsBody framing seen b now
BodyOn framing seen left now body.CutShort = IsAtEnd left × IsCutBody framing seen
BodyOn framing seen left now (body.BadChunk place) = (framing ≡ Chunked) × IsBadChunked seen place
BodyOn framing seen left now body.TooLarge = (framing ≡ Chunked) × IsLargeChunked seen
BodyOn framing seen left now body.ReadFault = IsCutBody framing seen
BodyOn framing seen left now body.NoMemory = Stays framing seen now

-- what moved, and the answer
pub record TakesBody (framing : Framing) (old now : List ℕ) (before after : SourceTold) (end : BodyEnd) : Type 0 where
  pub bytes : List ℕ
  pub taken_more : Appends before.taken after.taken bytes
  pub left_less : Consumes before.left after.left bytes
  pub verdict : BodyOn framing (old ++ bytes) after.left now end

-- a fault is answered exactly where the count rose, or stands at the greatest `u64`
abbrev pub BodyCause : SourceTold → SourceTold → BodyEnd → Type 0
BodyCause before now body.ReadFault = Rose before.faults now.faults
BodyCause before now end = now.faults ≡ before.faults

-- the answer by all that stood there: what the buffer held, and what was left
abbrev pub BodyOfRest : Framing → List ℕ → List ℕ → Option (List ℕ) → BodyEnd → Type 0
BodyOfRest framing rest now left (body.Body b) = IfSome left (λ more. ReadsBody framing rest b (now ++ more))
BodyOfRest framing rest now left body.CutShort = IsCutBody framing rest
BodyOfRest framing rest now left (body.BadChunk place) = (framing ≡ Chunked) × IsBadChunked rest place
BodyOfRest framing rest now left body.TooLarge = (framing ≡ Chunked) × IsLargeChunked rest
BodyOfRest framing rest now left body.ReadFault = ⊤
BodyOfRest framing rest now left body.NoMemory = ⊤
