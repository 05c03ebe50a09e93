-- A chunk line at the front of a buffer (RFC 9112, section 7.1).
use Rattle.std.specs.Prelude.{◌≡◌, ◌<◌, ◌≤◌, ℕ, List, length, take, drop}
use Rattle.std.specs.declared.option.Option.{Option}
use Rattle.std.specs.Io.KnownBytes.{IsAtEnd}
use Rattle.httparse.specs.Grammar.{ChunkLine, print_chunk_line, chunk_size, HasNoChunkLine, NeverHasChunkLine, MayBecomeChunkLine}
use Rattle.outer_ends.specs.Told.{SourceTold}
use Rattle.outer_ends.specs.Causes.{Rose}
use Rattle.http_model.specs.Bodies.{TakesChunkLine, IsBadLine}
use Rattle.http_bodies.specs.declared.lines.Line.{Line}
use Rattle.http_bodies.specs.declared.lines.Line.TheVariants as kind
use Rattle.http_bodies.specs.declared.lines.LineEnd.{LineEnd}
use Rattle.http_bodies.specs.declared.lines.LineEnd.TheVariants as end
use Rattle.http_messages.specs.declared.limits.TheConstants.{CHUNK_LINE_LIMIT}

-- the bytes begin with a chunk line within its limit, of so many bytes, which says that size
pub record HasLine (bytes : List ℕ) (len size : ℕ) : Type 0 where
  pub line : ChunkLine
  pub takes : TakesChunkLine bytes line (drop len bytes)
  pub len_is : len ≡ length (print_chunk_line line)
  pub within : len ≤ length bytes
  pub size_is : size ≡ chunk_size line

-- no chunk line begins the first bytes, and one still can
pub record IsOpenLine (bytes : List ℕ) : Type 0 where
  pub none : HasNoChunkLine bytes
  pub may : MayBecomeChunkLine bytes

abbrev pub LineIs : List ℕ → Line → Type 0
LineIs buffer (kind.Whole len size) = HasLine buffer len size
LineIs buffer kind.Open = IsOpenLine (take CHUNK_LINE_LIMIT buffer)
LineIs buffer kind.Never = HasNoChunkLine (take CHUNK_LINE_LIMIT buffer) × NeverHasChunkLine (take CHUNK_LINE_LIMIT buffer)

-- the answer, where the buffer holds these bytes
abbrev pub LineOn : List ℕ → Option (List ℕ) → LineEnd → Type 0
LineOn buffer left (end.Line len size) = HasLine buffer len size
LineOn buffer left end.Bad = IsBadLine buffer
LineOn buffer left end.Cut = (length buffer < CHUNK_LINE_LIMIT) × IsOpenLine buffer × IsAtEnd left
LineOn buffer left end.Fault = (length buffer < CHUNK_LINE_LIMIT) × IsOpenLine buffer

-- a fault is answered exactly where the count rose, or stands at the greatest `u64`
abbrev pub LineCause : SourceTold → SourceTold → LineEnd → Type 0
LineCause before now end.Fault = Rose before.faults now.faults
LineCause before now e = now.faults ≡ before.faults
