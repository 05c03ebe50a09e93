-- What stands at the front of a buffer behind the line of a chunk, and chunks one after another.
use Rattle.std.proofs.Common.{◌≡◌, ℕ, ◌+◌, ◌*◌, ◌<◌, ◌≤◌, List, [], ◌∷◌, ◌++◌, length, drop, refl, sym, ap, subst, ◌∙◌, arith, append_assoc, append-nil, length-append, None}
use Rattle.std.proofs.lemmas.Grind.{flat_map-append}
use Rattle.std.proofs.lemmas.List.Elements.{All-append, All-nil, All-cons}
use Rattle.outer_ends.specs.Told.{SourceTold}
use Rattle.httparse.specs.Grammar.{ChunkLine, print_chunk_line, chunk_size}
use Rattle.httparse.specs.Ascii.{crlf_bytes}
use Rattle.http_messages.specs.declared.framings.Framing.TheVariants.{Chunked}
use Rattle.http_model.specs.Bodies.{TakesChunkLine, Chunk, IsChunk, print_chunk, print_chunks, content_of, ChunksSoFar, IsBadTrailers, IsBadEnd, IsBadPiece, bad_end, bad_trailers, IsCutPiece, cut_content, cut_end, IsCutChunked}
use Rattle.http_framing.specs.Fills.{Adds}
use Rattle.http_framing.specs.FillLaws.{adds_none, adds_then, adds_behind}
use Rattle.http_bodies.specs.Lines.{HasLine}
use Rattle.http_bodies.specs.Edges.{IsOpenEdge}
use Rattle.http_bodies.specs.Pieces.{IsLineOf, PieceOn, TakesPiece, ChunksRead}
use Rattle.http_bodies.specs.Body.{BodyOn, TakesBody}
use Rattle.http_bodies.specs.declared.bodies.BodyEnd.{BodyEnd}
use Rattle.http_bodies.specs.declared.bodies.BodyEnd.TheVariants as found
use Rattle.http_bodies.specs.declared.chunks.PieceEnd.{PieceEnd}
use Rattle.http_bodies.specs.declared.chunks.PieceEnd.TheVariants as end
use Rattle.http_messages.specs.declared.limits.TheConstants.{BODY_LIMIT, CHUNK_LINE_LIMIT}

-- ---- what was seen

-- the bytes x stood before those of the buffer
pub piece_of : (x old new now body body_now : List ℕ) (t u : SourceTold) (e : PieceEnd) → Adds old new t u → PieceOn body body_now (x ++ new) u.left now e
    → TakesPiece body body_now (x ++ old) now t u e
piece_of x old new now body body_now t u e p v =
    let a = adds_behind x old new t u p in
    record {
      bytes = a.bytes;
      taken_more = a.taken_more;
      left_less = a.left_less;
      verdict = subst (λ (s : List ℕ). PieceOn body body_now s u.left now e) a.kept v;
    }

-- the bytes were seen by two calls
pub piece_then : (old new now body body_now : List ℕ) (t u v : SourceTold) (e : PieceEnd) → Adds old new t u → TakesPiece body body_now new now u v e
    → TakesPiece body body_now old now t v e
piece_then old new now body body_now t u v e p q =
    let rest : Adds new (new ++ q.bytes) u v = record { bytes = q.bytes; kept = refl; taken_more = q.taken_more; left_less = q.left_less } in
    let a = adds_then old new (new ++ q.bytes) t u v p rest in
    record {
      bytes = a.bytes;
      taken_more = a.taken_more;
      left_less = a.left_less;
      verdict = subst (λ (s : List ℕ). PieceOn body body_now s v.left now e) a.kept q.verdict;
    }

-- the same where the first bytes stand before those of the second call's buffer
pub piece_behind : (old new x behind now body body_now : List ℕ) (t u v : SourceTold) (e : PieceEnd) → Adds old new t u → x ++ behind ≡ new
    → TakesPiece body body_now (x ++ behind) now u v e → TakesPiece body body_now old now t v e
piece_behind old new x behind now body body_now t u v e p same q =
    piece_then old (x ++ behind) now body body_now t u v e (subst (λ (s : List ℕ). Adds old s t u) (sym same) p) q

pub line_reads : (len size : ℕ) (line : ChunkLine) (rest : List ℕ) → IsLineOf len size line → TakesChunkLine (print_chunk_line line ++ rest) line rest
line_reads len size line rest h = record { reads = (h.good, refl); fits = h.fits }

-- ---- behind a line

pub on_bad_trailers : (len : ℕ) (line : ChunkLine) (middle body : List ℕ) → IsLineOf len 0 line → IsBadTrailers middle
    → IsBadPiece (length body) (print_chunk_line line ++ middle) len × (len ≤ BODY_LIMIT + CHUNK_LINE_LIMIT)
on_bad_trailers len line middle body h bad = (
  subst (IsBadPiece (length body) (print_chunk_line line ++ middle)) (sym h.len_is) (bad_trailers line middle (line_reads len 0 line middle h) (sym h.size_is) bad),
  omega (arith, h.len_is, h.fits),
)

pub on_cut_data : (len size : ℕ) (line : ChunkLine) (part body : List ℕ) → IsLineOf len size line → 0 < size → length body + size ≤ BODY_LIMIT → length part < size
    → IsCutPiece (length body) (print_chunk_line line ++ (part ++ []))
on_cut_data len size line part body h some within short =
    cut_content line (part ++ []) (line_reads len size line (part ++ []) h) (omega (arith, h.size_is)) (omega (arith, h.size_is)) (omega (arith, h.size_is, length-append part []))

pub on_cut_edge : (len size : ℕ) (line : ChunkLine) (part after body : List ℕ) → IsLineOf len size line → 0 < size → length body + size ≤ BODY_LIMIT → length part ≡ size → IsOpenEdge after
    → IsCutPiece (length body) (print_chunk_line line ++ (part ++ after))
on_cut_edge len size line part after body h some within whole edge =
    cut_end line (part ++ after) part after (line_reads len size line (part ++ after) h) (omega (arith, h.size_is)) (omega (arith, h.size_is)) refl (whole ∙ h.size_is) edge

pub on_bad_edge : (len size : ℕ) (line : ChunkLine) (part after body : List ℕ) → IsLineOf len size line → 0 < size → length body + size ≤ BODY_LIMIT → length part ≡ size → IsBadEnd after
    → IsBadPiece (length body) (print_chunk_line line ++ (part ++ after)) (len + size) × (len + size ≤ BODY_LIMIT + CHUNK_LINE_LIMIT)
on_bad_edge len size line part after body h some within whole bad =
    let place : length (print_chunk_line line) + chunk_size line ≡ len + size = omega (arith, h.size_is, h.len_is) in (
      subst (IsBadPiece (length body) (print_chunk_line line ++ (part ++ after))) place
          (bad_end line (part ++ after) part after (line_reads len size line (part ++ after) h) (omega (arith, h.size_is)) (omega (arith, h.size_is)) refl (whole ∙ h.size_is) bad),
      omega (arith, h.len_is, h.fits),
    )

pub on_chunk : (len size : ℕ) (line : ChunkLine) (part after rest body body_now now : List ℕ) → IsLineOf len size line → 0 < size → length body + size ≤ BODY_LIMIT
    → length part ≡ size → body_now ≡ body ++ part → after ≡ 13 ∷ 10 ∷ rest → now ≡ drop 2 after
    → PieceOn body body_now (print_chunk_line line ++ (part ++ after)) None now (end.Chunk (len + size + 2))
on_chunk len size line part after rest body body_now now h some within whole added edge behind =
    let c : Chunk = record { line = line; content = part } in
    let text : print_chunk_line line ++ (part ++ after) ≡ print_chunk c ++ now =
    ap (λ (l : List ℕ). print_chunk_line line ++ (part ++ l)) edge ∙ sym (append_assoc (print_chunk_line line) part (13 ∷ 10 ∷ rest))
    ∙ sym (append_assoc (print_chunk_line line ++ part) crlf_bytes rest) ∙ ap (λ (l : List ℕ). print_chunk c ++ drop 2 l) (sym edge) ∙ ap (λ (l : List ℕ). print_chunk c ++ l) (sym behind) in (
      c,
      record { line = h.good; fits = h.fits; some = omega (arith, h.size_is); size = whole ∙ h.size_is },
      omega (arith, whole),
      added,
      text,
      omega (arith, h.len_is, whole, length-append (print_chunk_line line ++ part) crlf_bytes, length-append (print_chunk_line line) part),
    )

pub on_large : (len size : ℕ) (line : ChunkLine) (middle body : List ℕ) → IsLineOf len size line → BODY_LIMIT < length body + size
    → (l : ChunkLine) × (behind : List ℕ) × TakesChunkLine (print_chunk_line line ++ middle) l behind × (BODY_LIMIT < length body + chunk_size l)
on_large len size line middle body h over = (line, middle, line_reads len size line middle h, omega (arith, h.size_is))

-- ---- a line

pub line_of : (buffer : List ℕ) (len size : ℕ) (h : HasLine buffer len size) → IsLineOf len size h.line
line_of buffer len size h = record { good = h.takes.reads.0; fits = h.takes.fits; len_is = h.len_is; size_is = h.size_is }

-- ---- chunks one after another

pub chunks_none : (old : List ℕ) (t : SourceTold) → ChunksRead old old [] 0 t t
chunks_none old t = record { chunks = []; each = All-nil IsChunk; content = refl; place_is = refl; adds = adds_none old t }

one_content : (chunks : List Chunk) (c : Chunk) → content_of (chunks ++ c ∷ []) ≡ content_of chunks ++ c.content
one_content chunks c =
    flat_map-append (λ (k : Chunk). k.content) chunks (c ∷ []) ∙ ap (λ (l : List ℕ). content_of chunks ++ l) (append-nil c.content)

one_text : (chunks : List Chunk) (c : Chunk) → print_chunks (chunks ++ c ∷ []) ≡ print_chunks chunks ++ print_chunk c
one_text chunks c = flat_map-append print_chunk chunks (c ∷ []) ∙ ap (λ (l : List ℕ). print_chunks chunks ++ l) (append-nil (print_chunk c))

pub chunks_on : (old buffer now body body_now : List ℕ) (place n : ℕ) (t u v : SourceTold) → ChunksRead old buffer body place t u
    → TakesPiece body body_now buffer now u v (end.Chunk n) → ChunksRead old now body_now (place + n) t v
chunks_on old buffer now body body_now place n t u v p q =
    let c = q.verdict.0 in
    let one : Adds buffer (print_chunk c ++ now) u v = record { bytes = q.bytes; kept = sym q.verdict.4; taken_more = q.taken_more; left_less = q.left_less } in
    let text : print_chunks p.chunks ++ (print_chunk c ++ now) ≡ print_chunks (p.chunks ++ c ∷ []) ++ now =
    sym (append_assoc (print_chunks p.chunks) (print_chunk c) now) ∙ ap (λ (s : List ℕ). s ++ now) (sym (one_text p.chunks c)) in
    record {
      chunks = p.chunks ++ c ∷ [];
      each = All-append IsChunk p.chunks (c ∷ []) p.each (All-cons IsChunk c [] q.verdict.1 (All-nil IsChunk));
      content = q.verdict.3 ∙ ap (λ (s : List ℕ). s ++ c.content) p.content ∙ sym (one_content p.chunks c);
      place_is = omega (arith, p.place_is, q.verdict.5, ap length (one_text p.chunks c), length-append (print_chunks p.chunks) (print_chunk c));
      adds = subst (λ (s : List ℕ). Adds old s t v) text (
          adds_then old (print_chunks p.chunks ++ buffer) (print_chunks p.chunks ++ (print_chunk c ++ now)) t u v p.adds
          (adds_behind (print_chunks p.chunks) buffer (print_chunk c ++ now) u v one)
          );
    }

-- a chunk has at least one byte of data, and at most 1,026 others
pub chunk_size_in : (body body_now seen now : List ℕ) (n : ℕ) → PieceOn body body_now seen None now (end.Chunk n)
    → (length body < length body_now) × (length body_now ≤ BODY_LIMIT) × (n + 1027 * length body ≤ 1027 * length body_now)
chunk_size_in body body_now seen now n v =
    let c = v.0 in
    let sum : n ≡ length (print_chunk_line c.line) + length c.content + 2 =
    omega (arith, v.5, length-append (print_chunk_line c.line ++ c.content) crlf_bytes, length-append (print_chunk_line c.line) c.content) in
    let more : length body_now ≡ length body + length c.content = omega (arith, ap length v.3, length-append body c.content) in
    let some : 0 < length c.content = omega (arith, v.1.some, v.1.size) in
    (omega (arith, more, some), omega (arith, more, v.2), omega (arith, sum, more, some, v.1.fits))

-- ---- the whole body

-- all that was seen: the chunks, and behind them what the piece has
pub seen_of : (old buffer now body body_now : List ℕ) (place : ℕ) (t u v : SourceTold) (e : PieceEnd) (p : ChunksRead old buffer body place t u)
    (q : TakesPiece body body_now buffer now u v e) → Adds old (print_chunks p.chunks ++ (buffer ++ q.bytes)) t v
seen_of old buffer now body body_now place t u v e p q =
    let one : Adds buffer (buffer ++ q.bytes) u v = record { bytes = q.bytes; kept = refl; taken_more = q.taken_more; left_less = q.left_less } in
    adds_then old (print_chunks p.chunks ++ buffer) (print_chunks p.chunks ++ (buffer ++ q.bytes)) t u v p.adds
    (adds_behind (print_chunks p.chunks) buffer (buffer ++ q.bytes) u v one)

pub so_far_of : (old buffer body : List ℕ) (place : ℕ) (t u : SourceTold) (p : ChunksRead old buffer body place t u) (left : List ℕ) → length body ≤ BODY_LIMIT
    → ChunksSoFar (print_chunks p.chunks ++ left) p.chunks left
so_far_of old buffer body place t u p left within = record { each = p.each; within = omega (arith, ap length p.content, within); text = refl }

body_of : (old buffer now body body_now : List ℕ) (place : ℕ) (t u v : SourceTold) (e : PieceEnd) (end : BodyEnd) (p : ChunksRead old buffer body place t u)
    (q : TakesPiece body body_now buffer now u v e) → BodyOn Chunked (print_chunks p.chunks ++ (buffer ++ q.bytes)) v.left now end → TakesBody Chunked old now t v end
body_of old buffer now body body_now place t u v e end p q verdict =
    let a = seen_of old buffer now body body_now place t u v e p q in
    record {
      bytes = a.bytes;
      taken_more = a.taken_more;
      left_less = a.left_less;
      verdict = subst (λ (s : List ℕ). BodyOn Chunked s v.left now end) a.kept verdict;
    }

pub body_last : (old buffer now body body_now whole : List ℕ) (place : ℕ) (t u v : SourceTold) → length body ≤ BODY_LIMIT → whole ≡ body_now
    → ChunksRead old buffer body place t u → TakesPiece body body_now buffer now u v end.Last → TakesBody Chunked old now t v (found.Body whole)
body_last old buffer now body body_now whole place t u v within same p q =
    body_of old buffer now body body_now place t u v end.Last (found.Body whole) p q
    (record {
      chunks = p.chunks;
      left = buffer ++ q.bytes;
      so_far = so_far_of old buffer body place t u p (buffer ++ q.bytes) within;
      last = q.verdict.0;
      middle = q.verdict.1;
      line = q.verdict.2;
      zero = q.verdict.3;
      trailers = q.verdict.4;
      same = same ∙ q.verdict.5 ∙ p.content;
    })

cut_of : (old buffer body : List ℕ) (place : ℕ) (t u : SourceTold) (p : ChunksRead old buffer body place t u) (left : List ℕ) → length body ≤ BODY_LIMIT
    → IsCutPiece (length body) left → IsCutChunked (print_chunks p.chunks ++ left)
cut_of old buffer body place t u p left within cut = record {
  chunks = p.chunks;
  left = left;
  so_far = so_far_of old buffer body place t u p left within;
  piece = subst (λ (b : List ℕ). IsCutPiece (length b) left) p.content cut;
}

pub body_cut : (old buffer now body body_now : List ℕ) (place : ℕ) (t u v : SourceTold) → length body ≤ BODY_LIMIT
    → ChunksRead old buffer body place t u → TakesPiece body body_now buffer now u v end.Cut → TakesBody Chunked old now t v found.CutShort
body_cut old buffer now body body_now place t u v within p q =
    body_of old buffer now body body_now place t u v end.Cut found.CutShort p q
    (q.verdict.0, cut_of old buffer body place t u p (buffer ++ q.bytes) within q.verdict.1)

pub body_fault : (old buffer now body body_now : List ℕ) (place : ℕ) (t u v : SourceTold) → length body ≤ BODY_LIMIT
    → ChunksRead old buffer body place t u → TakesPiece body body_now buffer now u v end.Fault → TakesBody Chunked old now t v found.ReadFault
body_fault old buffer now body body_now place t u v within p q =
    body_of old buffer now body body_now place t u v end.Fault found.ReadFault p q
    (cut_of old buffer body place t u p (buffer ++ q.bytes) within q.verdict)

pub body_bad : (old buffer now body body_now : List ℕ) (place on : ℕ) (t u v : SourceTold) → length body ≤ BODY_LIMIT
    → ChunksRead old buffer body place t u → TakesPiece body body_now buffer now u v (end.Bad on) → TakesBody Chunked old now t v (found.BadChunk (place + on))
body_bad old buffer now body body_now place on t u v within p q =
    body_of old buffer now body body_now place t u v (end.Bad on) (found.BadChunk (place + on)) p q (
      refl,
      record {
        chunks = p.chunks;
        left = buffer ++ q.bytes;
        so_far = so_far_of old buffer body place t u p (buffer ++ q.bytes) within;
        on = on;
        piece = subst (λ (b : List ℕ). IsBadPiece (length b) (buffer ++ q.bytes) on) p.content q.verdict.0;
        at = ap (λ (n : ℕ). n + on) p.place_is;
      },
    )

pub body_large : (old buffer now body body_now : List ℕ) (place : ℕ) (t u v : SourceTold) → length body ≤ BODY_LIMIT
    → ChunksRead old buffer body place t u → TakesPiece body body_now buffer now u v end.TooLarge → TakesBody Chunked old now t v found.TooLarge
body_large old buffer now body body_now place t u v within p q =
    body_of old buffer now body body_now place t u v end.TooLarge found.TooLarge p q (
      refl,
      record {
        chunks = p.chunks;
        left = buffer ++ q.bytes;
        so_far = so_far_of old buffer body place t u p (buffer ++ q.bytes) within;
        line = q.verdict.0;
        middle = q.verdict.1;
        takes = q.verdict.2;
        over = omega (arith, ap length p.content, q.verdict.3);
      },
    )

pub body_memory : (old buffer now body body_now : List ℕ) (place : ℕ) (t u v : SourceTold)
    → ChunksRead old buffer body place t u → TakesPiece body body_now buffer now u v end.NoMemory → TakesBody Chunked old now t v found.NoMemory
body_memory old buffer now body body_now place t u v p q =
    body_of old buffer now body body_now place t u v end.NoMemory found.NoMemory p q tt
