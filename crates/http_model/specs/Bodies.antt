-- The body of a message, as its framing delimits it (RFC 9112, sections 6 and 7.1).
use Rattle.std.specs.Prelude.{◌≡◌, ◌≢◌, ◌⊎◌, ℕ, ◌+◌, ◌<◌, ◌≤◌, List, [], ◌∷◌, ◌++◌, length, take, All}
use Rattle.std.specs.List.{flat_map}
use Rattle.httparse.specs.Grammar.{ChunkLine, IsChunkLine, print_chunk_line, chunk_size, ReadsChunkLine, HasNoChunkLine, NeverHasChunkLine, MayBecomeChunkLine, Field, LineEnd, print_section, ReadsSection, HasNoSection, NeverHasSection, MayBecomeSection}
use Rattle.httparse.specs.Ascii.{crlf_bytes}
use Rattle.http_messages.specs.declared.framings.Framing.{Framing}
use Rattle.http_messages.specs.declared.framings.Framing.TheVariants.{Empty, Length, Chunked}
use Rattle.http_messages.specs.declared.limits.TheConstants.{BODY_LIMIT, CHUNK_LINE_LIMIT, TRAILER_LIMIT}

-- a chunk line within its limit (RFC 9112, section 7.1)
pub record TakesChunkLine (bytes : List ℕ) (line : ChunkLine) (rest : List ℕ) : Type 0 where
  pub reads : ReadsChunkLine bytes line rest
  pub fits : length (print_chunk_line line) ≤ CHUNK_LINE_LIMIT

-- a trailer section and the line that ends it, within its limit (RFC 9112, section 7.1.2)
pub record TakesTrailers (bytes : List ℕ) (rest : List ℕ) : Type 0 where
  pub fields : List Field
  pub last : LineEnd
  pub reads : ReadsSection bytes fields last rest
  pub fits : length (print_section fields last) ≤ TRAILER_LIMIT

-- a chunk: its line, and as many bytes as that says (RFC 9112, section 7.1)
pub record Chunk : Type 0 where
  pub line : ChunkLine
  pub content : List ℕ

-- the text of a chunk: its line, its data and CR LF
abbrev pub print_chunk : Chunk → List ℕ
print_chunk c = print_chunk_line c.line ++ c.content ++ crlf_bytes

-- a chunk of data: a line within its limit, and as much data as the line says, which is some
pub record IsChunk (c : Chunk) : Type 0 where
  pub line : IsChunkLine c.line
  pub fits : length (print_chunk_line c.line) ≤ CHUNK_LINE_LIMIT
  pub some : 0 < chunk_size c.line
  pub size : length c.content ≡ chunk_size c.line

-- the text of chunks in a row
abbrev pub print_chunks : List Chunk → List ℕ
print_chunks chunks = flat_map print_chunk chunks

-- the data of the chunks
abbrev pub content_of : List Chunk → List ℕ
content_of chunks = flat_map (λ c. c.content) chunks

-- bytes are these chunks, whose data is within the limit, and then left
pub record ChunksSoFar (bytes : List ℕ) (chunks : List Chunk) (left : List ℕ) : Type 0 where
  pub each : All IsChunk chunks
  pub within : length (content_of chunks) ≤ BODY_LIMIT
  pub text : bytes ≡ print_chunks chunks ++ left

-- bytes are chunks, the last chunk and the trailer section, and then rest (RFC 9112, section 7.1)
pub record ReadsChunked (bytes body rest : List ℕ) : Type 0 where
  pub chunks : List Chunk
  pub left : List ℕ
  pub so_far : ChunksSoFar bytes chunks left
  pub last : ChunkLine
  pub middle : List ℕ
  pub line : TakesChunkLine left last middle
  pub zero : chunk_size last ≡ 0
  pub trailers : TakesTrailers middle rest
  pub same : body ≡ content_of chunks

-- ---- what is refused, at a place counted from the first byte

-- no line begins the bytes, and either none can or they reach the limit (of this project)
abbrev pub IsBadLine : List ℕ → Type 0
IsBadLine bytes =
    HasNoChunkLine (take CHUNK_LINE_LIMIT bytes) × (NeverHasChunkLine (take CHUNK_LINE_LIMIT bytes) ⊎ (CHUNK_LINE_LIMIT ≤ length bytes))

-- no trailer section begins the bytes, and either none can or they reach the limit (of this project)
abbrev pub IsBadTrailers : List ℕ → Type 0
IsBadTrailers bytes =
    HasNoSection (take TRAILER_LIMIT bytes) × (NeverHasSection (take TRAILER_LIMIT bytes) ⊎ (TRAILER_LIMIT ≤ length bytes))

-- what stands there is no CR LF, and cannot become it (RFC 9112, section 7.1)
abbrev pub IsBadEnd : List ℕ → Type 0
IsBadEnd [] = ⊥
IsBadEnd (b ∷ []) = b ≢ 13
IsBadEnd (b ∷ c ∷ bytes) = (b ≢ 13) ⊎ (c ≢ 10)

-- after so much data a piece is refused, which stands so many bytes on
pub data IsBadPiece (before : ℕ) (bytes : List ℕ) : ℕ → Type 0 where
  bad_line : IsBadLine bytes → IsBadPiece before bytes 0
  bad_end : (line : ChunkLine) (middle part after : List ℕ) → TakesChunkLine bytes line middle → 0 < chunk_size line
      → before + chunk_size line ≤ BODY_LIMIT → middle ≡ part ++ after → length part ≡ chunk_size line → IsBadEnd after
      → IsBadPiece before bytes (length (print_chunk_line line) + chunk_size line)
  bad_trailers : (line : ChunkLine) (middle : List ℕ) → TakesChunkLine bytes line middle → chunk_size line ≡ 0 → IsBadTrailers middle
      → IsBadPiece before bytes (length (print_chunk_line line))

-- behind chunks a piece is refused, at a place counted from the first byte
pub record IsBadChunked (bytes : List ℕ) (place : ℕ) : Type 0 where
  pub chunks : List Chunk
  pub left : List ℕ
  pub so_far : ChunksSoFar bytes chunks left
  pub on : ℕ
  pub piece : IsBadPiece (length (content_of chunks)) left on
  pub at : place ≡ length (print_chunks chunks) + on

-- behind chunks stands a line whose size takes the sum over the limit (RFC 9110, section 15.5.14)
pub record IsLargeChunked (bytes : List ℕ) : Type 0 where
  pub chunks : List Chunk
  pub left : List ℕ
  pub so_far : ChunksSoFar bytes chunks left
  pub line : ChunkLine
  pub middle : List ℕ
  pub takes : TakesChunkLine left line middle
  pub over : BODY_LIMIT < length (content_of chunks) + chunk_size line

-- ---- what is cut

-- after so much data the bytes end inside a piece
pub data IsCutPiece (before : ℕ) (bytes : List ℕ) : Type 0 where
  cut_line : length bytes < CHUNK_LINE_LIMIT → HasNoChunkLine bytes → MayBecomeChunkLine bytes → IsCutPiece before bytes
  cut_content : (line : ChunkLine) (middle : List ℕ) → TakesChunkLine bytes line middle → 0 < chunk_size line
      → before + chunk_size line ≤ BODY_LIMIT → length middle < chunk_size line → IsCutPiece before bytes
  cut_end : (line : ChunkLine) (middle part after : List ℕ) → TakesChunkLine bytes line middle → 0 < chunk_size line
      → before + chunk_size line ≤ BODY_LIMIT → middle ≡ part ++ after → length part ≡ chunk_size line
      → (after ≡ []) ⊎ (after ≡ 13 ∷ []) → IsCutPiece before bytes
  cut_trailers : (line : ChunkLine) (middle : List ℕ) → TakesChunkLine bytes line middle → chunk_size line ≡ 0
      → length middle < TRAILER_LIMIT → HasNoSection middle → MayBecomeSection middle → IsCutPiece before bytes

-- behind chunks the bytes end inside a piece
pub record IsCutChunked (bytes : List ℕ) : Type 0 where
  pub chunks : List Chunk
  pub left : List ℕ
  pub so_far : ChunksSoFar bytes chunks left
  pub piece : IsCutPiece (length (content_of chunks)) left

-- ---- of any framing

-- bytes are the body of that framing, and then rest (RFC 9112, section 6.3)
abbrev pub ReadsBody : Framing → List ℕ → List ℕ → List ℕ → Type 0
ReadsBody Empty bytes body rest = (body ≡ []) × (bytes ≡ rest)
ReadsBody (Length n) bytes body rest = (length body ≡ n) × (bytes ≡ body ++ rest)
ReadsBody Chunked bytes body rest = ReadsChunked bytes body rest

-- bytes end inside the body (RFC 9112, section 8)
abbrev pub IsCutBody : Framing → List ℕ → Type 0
IsCutBody Empty bytes = ⊥
IsCutBody (Length n) bytes = length bytes < n
IsCutBody Chunked bytes = IsCutChunked bytes

-- what stands where a body begins: the body and a rest, a piece that is refused at a place, too much, or a part of a body
pub data BodyKind : Type 0 where
  body_good : List ℕ → List ℕ → BodyKind
  body_bad : ℕ → BodyKind
  body_large body_cut : BodyKind

-- the bytes are of that kind, by which a law says that no bytes are of two
abbrev pub IsBodyKind : Framing → List ℕ → BodyKind → Type 0
IsBodyKind framed bytes (body_good body rest) = ReadsBody framed bytes body rest
IsBodyKind framed bytes (body_bad place) = (framed ≡ Chunked) × IsBadChunked bytes place
IsBodyKind framed bytes body_large = (framed ≡ Chunked) × IsLargeChunked bytes
IsBodyKind framed bytes body_cut = IsCutBody framed bytes
