-- A chunk, or the last chunk and the trailer section, at the front of a buffer (RFC 9112, section 7.1).
use Rattle.std.specs.Prelude.{◌≡◌, ◌+◌, ◌<◌, ◌≤◌, ℕ, List, ◌++◌, length, ⊤, All}
use Rattle.std.specs.declared.option.Option.{Option}
use Rattle.std.specs.Io.KnownBytes.{Appends, Consumes, IsAtEnd}
use Rattle.httparse.specs.Grammar.{ChunkLine, IsChunkLine, print_chunk_line, chunk_size}
use Rattle.outer_ends.specs.Told.{SourceTold}
use Rattle.outer_ends.specs.Causes.{Rose}
use Rattle.http_model.specs.Bodies.{TakesChunkLine, TakesTrailers, Chunk, IsChunk, print_chunk, print_chunks, content_of, IsBadPiece, IsCutPiece}
use Rattle.http_framing.specs.Fills.{Adds}
use Rattle.http_bodies.specs.declared.chunks.PieceEnd.{PieceEnd}
use Rattle.http_bodies.specs.declared.chunks.PieceEnd.TheVariants as end
use Rattle.http_messages.specs.declared.limits.TheConstants.{BODY_LIMIT, CHUNK_LINE_LIMIT}

-- a chunk line within its limit, of so many bytes, which says that size
pub record IsLineOf (len size : ℕ) (line : ChunkLine) : Type 0 where
  pub good : IsChunkLine line
  pub fits : length (print_chunk_line line) ≤ CHUNK_LINE_LIMIT
  pub len_is : len ≡ length (print_chunk_line line)
  pub size_is : size ≡ chunk_size line

-- the answer, where the body was and is this, these bytes were seen, and now the buffer holds those
abbrev pub PieceOn : List ℕ → List ℕ → List ℕ → Option (List ℕ) → List ℕ → PieceEnd → Type 0
PieceOn body body_now seen left now (end.Chunk n) =
    (c : Chunk) × IsChunk c × (length body + length c.content ≤ BODY_LIMIT) × (body_now ≡ body ++ c.content) × (seen ≡ print_chunk c ++ now) × (n ≡ length (print_chunk c))
PieceOn body body_now seen left now end.Last =
    (line : ChunkLine) × (middle : List ℕ) × TakesChunkLine seen line middle × (chunk_size line ≡ 0) × TakesTrailers middle now × (body_now ≡ body)
PieceOn body body_now seen left now end.Cut = IsAtEnd left × IsCutPiece (length body) seen
PieceOn body body_now seen left now (end.Bad on) = IsBadPiece (length body) seen on × (on ≤ BODY_LIMIT + CHUNK_LINE_LIMIT)
PieceOn body body_now seen left now end.TooLarge =
    (line : ChunkLine) × (middle : List ℕ) × TakesChunkLine seen line middle × (BODY_LIMIT < length body + chunk_size line)
PieceOn body body_now seen left now end.Fault = IsCutPiece (length body) seen
PieceOn body body_now seen left now end.NoMemory = ⊤

-- what moved, and the answer
pub record TakesPiece (body body_now old now : List ℕ) (before after : SourceTold) (end : PieceEnd) : Type 0 where
  pub bytes : List ℕ
  pub taken_more : Appends before.taken after.taken bytes
  pub left_less : Consumes before.left after.left bytes
  pub verdict : PieceOn body body_now (old ++ bytes) after.left now end

-- a fault is answered exactly where the count rose, or stands at the greatest `u64`
abbrev pub PieceCause : SourceTold → SourceTold → PieceEnd → Type 0
PieceCause before now end.Fault = Rose before.faults now.faults
PieceCause before now e = now.faults ≡ before.faults

-- whole chunks were read, which stand so many bytes long behind what the buffer held, and the body is their data
pub record ChunksRead (old buffer body : List ℕ) (place : ℕ) (before now : SourceTold) : Type 0 where
  pub chunks : List Chunk
  pub each : All IsChunk chunks
  pub content : body ≡ content_of chunks
  pub place_is : place ≡ length (print_chunks chunks)
  pub adds : Adds old (print_chunks chunks ++ buffer) before now
