-- A chunked body is whole, refused at one place, too large or cut, and never two of these.
use Rattle.std.proofs.Common.{◌≡◌, ◌≢◌, ℕ, ◌+◌, ◌-◌, ◌<◌, ◌≤◌, List, [], ◌∷◌, ◌++◌, length, take, drop, refl, sym, ap, subst, ◌∙◌, arith, append_assoc, ◌⊎◌, inl, inr, All, take-append-drop, length-append}
use Rattle.std.proofs.Math.Seq.{take-append-add}
use Rattle.std.proofs.lemmas.List.Elements.{All-head, All-tail}
use Rattle.httparse.specs.Grammar.{ChunkLine, print_chunk_line, chunk_size, HasNoChunkLine, NeverHasChunkLine, MayBecomeChunkLine, print_section, HasNoSection, NeverHasSection, MayBecomeSection}
use Rattle.httparse.specs.Ascii.{crlf_bytes}
use Rattle.httparse.proofs.GrammarLemmas.{section_unique}
use Rattle.httparse.proofs.ChunkLemmas.{chunk_line_unique}
use Rattle.http_messages.specs.declared.framings.Framing.{Framing}
use Rattle.http_messages.specs.declared.framings.Framing.TheVariants.{Empty, Length, Chunked}
use Rattle.http_model.specs.Bodies.{TakesChunkLine, TakesTrailers, Chunk, IsChunk, print_chunks, content_of, ChunksSoFar, IsBadLine, IsBadTrailers, IsBadEnd, IsBadPiece, bad_line, bad_end, bad_trailers, IsCutPiece, cut_line, cut_content, cut_end, cut_trailers, BodyKind, body_good, body_bad, body_large, body_cut, IsBodyKind}
use Rattle.http_model.proofs.Requests.{append_same, behind_line, chunk_line_at, body_unique}
use Rattle.http_messages.specs.declared.limits.TheConstants.{BODY_LIMIT, CHUNK_LINE_LIMIT, TRAILER_LIMIT}

-- ---- a limit

-- what fits a limit stands in so many bytes
taken : (limit : ℕ) (text first after : List ℕ) → length first ≤ limit → text ≡ first ++ after → take limit text ≡ first ++ take (limit - length first) after
taken limit text first after fits e =
    ap (take limit) e ∙ ap (λ (n : ℕ). take n (first ++ after)) sizes ∙ take-append-add first after (limit - length first)
  where
    sizes : limit ≡ length first + (limit - length first)
    sizes = omega (arith, fits)

rejoined : (limit : ℕ) (text more : List ℕ) → text ++ more ≡ take limit text ++ (drop limit text ++ more)
rejoined limit text more =
    ap (λ (l : List ℕ). l ++ more) (sym (take-append-drop limit text)) ∙ append_assoc (take limit text) (drop limit text) more

-- ---- trailers

data TailKind : Type 0 where
  tail_good : List ℕ → TailKind
  tail_bad tail_cut : TailKind

abbrev IsTail : List ℕ → TailKind → Type 0
IsTail middle (tail_good rest) = TakesTrailers middle rest
IsTail middle tail_bad = IsBadTrailers middle
IsTail middle tail_cut = (length middle < TRAILER_LIMIT) × HasNoSection middle × MayBecomeSection middle

good_bad_tail : (middle rest : List ℕ) → TakesTrailers middle rest → IsBadTrailers middle → ⊥
good_bad_tail middle rest t bad =
    bad.0 t.fields t.last (take (TRAILER_LIMIT - length (print_section t.fields t.last)) rest)
    (t.reads.0, taken TRAILER_LIMIT middle (print_section t.fields t.last) rest t.fits t.reads.1)

bad_cut_tail : (middle : List ℕ) → IsBadTrailers middle → IsTail middle tail_cut → ⊥
bad_cut_tail middle bad cut = at bad.1
  where
    at : NeverHasSection (take TRAILER_LIMIT middle) ⊎ (TRAILER_LIMIT ≤ length middle) → ⊥
    at (inl dead) =
        let may = cut.2 in
        dead (drop TRAILER_LIMIT middle ++ may.0) may.1 may.2 [] (may.3.0, sym (rejoined TRAILER_LIMIT middle may.0) ∙ may.3.1)
    at (inr full) = omega (arith, full, cut.0)

tail_unique : (middle : List ℕ) (j k : TailKind) → IsTail middle j → IsTail middle k → j ≡ k
tail_unique middle (tail_good rest) (tail_good other) x y =
    ap tail_good (section_unique middle x.fields y.fields x.last y.last rest other x.reads y.reads).2
tail_unique middle (tail_good rest) tail_bad x y = absurd (good_bad_tail middle rest x y)
tail_unique middle (tail_good rest) tail_cut x y = absurd (y.1 x.fields x.last rest x.reads)
tail_unique middle tail_bad (tail_good rest) x y = absurd (good_bad_tail middle rest y x)
tail_unique middle tail_bad tail_bad x y = refl
tail_unique middle tail_bad tail_cut x y = absurd (bad_cut_tail middle x y)
tail_unique middle tail_cut (tail_good rest) x y = absurd (x.1 y.fields y.last rest y.reads)
tail_unique middle tail_cut tail_bad x y = absurd (bad_cut_tail middle y x)
tail_unique middle tail_cut tail_cut x y = refl

-- ---- the end of a chunk

data EdgeKind : Type 0 where
  edge_good : List ℕ → EdgeKind
  edge_bad edge_cut : EdgeKind

abbrev IsEdge : List ℕ → EdgeKind → Type 0
IsEdge after (edge_good rest) = after ≡ 13 ∷ 10 ∷ rest
IsEdge after edge_bad = IsBadEnd after
IsEdge after edge_cut = (after ≡ []) ⊎ (after ≡ 13 ∷ [])

good_bad_edge : (after rest : List ℕ) → after ≡ 13 ∷ 10 ∷ rest → IsBadEnd after → ⊥
good_bad_edge after rest e bad = at (subst IsBadEnd e bad)
  where
    at : (◌≢◌ {A = ℕ} 13 13) ⊎ (◌≢◌ {A = ℕ} 10 10) → ⊥
    at (inl n) = n refl
    at (inr n) = n refl

good_cut_edge : (after rest : List ℕ) → after ≡ 13 ∷ 10 ∷ rest → IsEdge after edge_cut → ⊥
good_cut_edge after rest e (inl f) = omega (arith, ap length e, ap length f)
good_cut_edge after rest e (inr f) = omega (arith, ap length e, ap length f)

bad_cut_edge : (after : List ℕ) → IsBadEnd after → IsEdge after edge_cut → ⊥
bad_cut_edge after bad (inl f) = subst IsBadEnd f bad
bad_cut_edge after bad (inr f) = subst IsBadEnd f bad refl

edge_unique : (after : List ℕ) (j k : EdgeKind) → IsEdge after j → IsEdge after k → j ≡ k
edge_unique after (edge_good rest) (edge_good other) x y = ap (λ (l : List ℕ). edge_good (drop 2 l)) (sym x ∙ y)
edge_unique after (edge_good rest) edge_bad x y = absurd (good_bad_edge after rest x y)
edge_unique after (edge_good rest) edge_cut x y = absurd (good_cut_edge after rest x y)
edge_unique after edge_bad (edge_good rest) x y = absurd (good_bad_edge after rest y x)
edge_unique after edge_bad edge_bad x y = refl
edge_unique after edge_bad edge_cut x y = absurd (bad_cut_edge after x y)
edge_unique after edge_cut (edge_good rest) x y = absurd (good_cut_edge after rest y x)
edge_unique after edge_cut edge_bad x y = absurd (bad_cut_edge after y x)
edge_unique after edge_cut edge_cut x y = refl

-- ---- a piece

pub data PieceKind : Type 0 where
  piece_good : List ℕ → PieceKind
  piece_bad : ℕ → PieceKind
  piece_large piece_cut : PieceKind
  piece_chunk : List ℕ → List ℕ → PieceKind

abbrev tail_piece : ℕ → TailKind → PieceKind
tail_piece k (tail_good rest) = piece_good rest
tail_piece k tail_bad = piece_bad k
tail_piece k tail_cut = piece_cut

abbrev edge_piece : ℕ → List ℕ → EdgeKind → PieceKind
edge_piece k part (edge_good rest) = piece_chunk part rest
edge_piece k part edge_bad = piece_bad k
edge_piece k part edge_cut = piece_cut

-- behind a line of k bytes that says n
data Behind (before n k : ℕ) (middle : List ℕ) (j : PieceKind) : Type 0 where
  ends : n ≡ 0 → (t : TailKind) → IsTail middle t → j ≡ tail_piece k t → Behind before n k middle j
  over : BODY_LIMIT < before + n → j ≡ piece_large → Behind before n k middle j
  short : 0 < n → before + n ≤ BODY_LIMIT → length middle < n → j ≡ piece_cut → Behind before n k middle j
  edge : 0 < n → before + n ≤ BODY_LIMIT → (part after : List ℕ) → middle ≡ part ++ after → length part ≡ n → (e : EdgeKind) → IsEdge after e
      → j ≡ edge_piece (k + n) part e → Behind before n k middle j

short_edge : (n : ℕ) (middle part after : List ℕ) → length middle < n → middle ≡ part ++ after → length part ≡ n → ⊥
short_edge n middle part after s e p = omega (arith, s, ap length e, length-append part after, p)

behind_unique : (before n k : ℕ) (middle : List ℕ) (i j : PieceKind) → before ≤ BODY_LIMIT → Behind before n k middle i → Behind before n k middle j → i ≡ j
behind_unique before n k middle i j w (ends z t h p) (ends y u g q) = p ∙ ap (tail_piece k) (tail_unique middle t u h g) ∙ sym q
behind_unique before n k middle i j w (ends z t h p) (over o q) = absurd (omega (arith, z, o, w))
behind_unique before n k middle i j w (ends z t h p) (short s l m q) = absurd (omega (arith, z, s))
behind_unique before n k middle i j w (ends z t h p) (edge s l a b e c d f q) = absurd (omega (arith, z, s))
behind_unique before n k middle i j w (over o p) (ends z t h q) = absurd (omega (arith, z, o, w))
behind_unique before n k middle i j w (over o p) (over v q) = p ∙ sym q
behind_unique before n k middle i j w (over o p) (short s l m q) = absurd (omega (arith, o, l))
behind_unique before n k middle i j w (over o p) (edge s l a b e c d f q) = absurd (omega (arith, o, l))
behind_unique before n k middle i j w (short s l m p) (ends z t h q) = absurd (omega (arith, z, s))
behind_unique before n k middle i j w (short s l m p) (over o q) = absurd (omega (arith, o, l))
behind_unique before n k middle i j w (short s l m p) (short r u v q) = p ∙ sym q
behind_unique before n k middle i j w (short s l m p) (edge r u a b e c d f q) = absurd (short_edge n middle a b m e c)
behind_unique before n k middle i j w (edge s l a b e c d f p) (ends z t h q) = absurd (omega (arith, z, s))
behind_unique before n k middle i j w (edge s l a b e c d f p) (over o q) = absurd (omega (arith, o, l))
behind_unique before n k middle i j w (edge s l a b e c d f p) (short r u v q) = absurd (short_edge n middle a b v e c)
behind_unique before n k middle i j w (edge s l a b e c d f p) (edge r u x y g h v t q) =
    let same = append_same a x b y (c ∙ sym h) (sym e ∙ g) in
    p ∙ ap (edge_piece (k + n) a) (edge_unique y d v (subst (λ (z : List ℕ). IsEdge z d) same.1 f) t) ∙ ap (λ (z : List ℕ). edge_piece (k + n) z v) same.0 ∙ sym q

data Piece (before : ℕ) (bytes : List ℕ) (j : PieceKind) : Type 0 where
  no_line : IsBadLine bytes → j ≡ piece_bad 0 → Piece before bytes j
  part_line : length bytes < CHUNK_LINE_LIMIT → HasNoChunkLine bytes → MayBecomeChunkLine bytes → j ≡ piece_cut → Piece before bytes j
  with_line : (l : ChunkLine) (middle : List ℕ) → TakesChunkLine bytes l middle → Behind before (chunk_size l) (length (print_chunk_line l)) middle j → Piece before bytes j

bad_takes : (bytes : List ℕ) (l : ChunkLine) (middle : List ℕ) → IsBadLine bytes → TakesChunkLine bytes l middle → ⊥
bad_takes bytes l middle bad t =
    bad.0 l (take (CHUNK_LINE_LIMIT - length (print_chunk_line l)) middle) (t.reads.0, taken CHUNK_LINE_LIMIT bytes (print_chunk_line l) middle t.fits t.reads.1)

bad_part : (bytes : List ℕ) → IsBadLine bytes → length bytes < CHUNK_LINE_LIMIT → MayBecomeChunkLine bytes → ⊥
bad_part bytes bad short_of may = at bad.1
  where
    at : NeverHasChunkLine (take CHUNK_LINE_LIMIT bytes) ⊎ (CHUNK_LINE_LIMIT ≤ length bytes) → ⊥
    at (inl dead) = dead (drop CHUNK_LINE_LIMIT bytes ++ may.0) may.1 [] (may.2.0, sym (rejoined CHUNK_LINE_LIMIT bytes may.0) ∙ may.2.1)
    at (inr full) = omega (arith, full, short_of)

piece_unique : (before : ℕ) (bytes : List ℕ) (i j : PieceKind) → before ≤ BODY_LIMIT → Piece before bytes i → Piece before bytes j → i ≡ j
piece_unique before bytes i j w (no_line b p) (no_line c q) = p ∙ sym q
piece_unique before bytes i j w (no_line b p) (part_line s n m q) = absurd (bad_part bytes b s m)
piece_unique before bytes i j w (no_line b p) (with_line l m t h) = absurd (bad_takes bytes l m b t)
piece_unique before bytes i j w (part_line s n m p) (no_line b q) = absurd (bad_part bytes b s m)
piece_unique before bytes i j w (part_line s n m p) (part_line r u v q) = p ∙ sym q
piece_unique before bytes i j w (part_line s n m p) (with_line l k t h) = absurd (n l k t.reads)
piece_unique before bytes i j w (with_line l m t h) (no_line b q) = absurd (bad_takes bytes l m b t)
piece_unique before bytes i j w (with_line l k t h) (part_line s n m q) = absurd (n l k t.reads)
piece_unique before bytes i j w (with_line l m t h) (with_line k n u g) =
    let same = chunk_line_unique bytes l k m n t.reads u.reads in
    behind_unique before (chunk_size k) (length (print_chunk_line k)) n i j w
    (subst (λ (x : List ℕ). Behind before (chunk_size k) (length (print_chunk_line k)) x i) same.1
    (subst (λ (x : ChunkLine). Behind before (chunk_size x) (length (print_chunk_line x)) m i) same.0 h)) g

-- ---- the definitions' pieces

of_bad : (before : ℕ) (bytes : List ℕ) (on : ℕ) → IsBadPiece before bytes on → Piece before bytes (piece_bad on)
of_bad before bytes _ (bad_line b) = no_line b refl
of_bad before bytes _ (bad_end l middle part after t s w e p bad) = with_line l middle t (edge s w part after e p edge_bad bad refl)
of_bad before bytes _ (bad_trailers l middle t z bad) = with_line l middle t (ends z tail_bad bad refl)

of_cut : (before : ℕ) (bytes : List ℕ) → IsCutPiece before bytes → Piece before bytes piece_cut
of_cut before bytes (cut_line s n m) = part_line s n m refl
of_cut before bytes (cut_content l middle t s w m) = with_line l middle t (short s w m refl)
of_cut before bytes (cut_end l middle part after t s w e p c) = with_line l middle t (edge s w part after e p edge_cut c refl)
of_cut before bytes (cut_trailers l middle t z s n m) = with_line l middle t (ends z tail_cut (s, n, m) refl)

of_chunk : (before : ℕ) (bytes : List ℕ) (c : Chunk) (cs : List Chunk) (left : List ℕ) → IsChunk c → bytes ≡ print_chunks (c ∷ cs) ++ left
    → before + length c.content ≤ BODY_LIMIT → Piece before bytes (piece_chunk c.content (print_chunks cs ++ left))
of_chunk before bytes c cs left h e w =
    with_line c.line (behind_line c cs left) (record { reads = chunk_line_at bytes c cs left h e; fits = h.fits })
    (edge h.some (omega (arith, w, h.size)) c.content (crlf_bytes ++ (print_chunks cs ++ left)) refl h.size (edge_good (print_chunks cs ++ left)) refl refl)

abbrev IsFinal : PieceKind → Type 0
IsFinal (piece_chunk part rest) = ⊥
IsFinal (piece_good rest) = Unit {0}
IsFinal (piece_bad on) = Unit {0}
IsFinal piece_large = Unit {0}
IsFinal piece_cut = Unit {0}

-- ---- chunks in a row

aligned : (cs ds : List Chunk) (before : ℕ) (left other : List ℕ) (i j : PieceKind) → All IsChunk cs → All IsChunk ds
    → print_chunks cs ++ left ≡ print_chunks ds ++ other → before + length (content_of cs) ≤ BODY_LIMIT → before + length (content_of ds) ≤ BODY_LIMIT
    → IsFinal i → IsFinal j → Piece (before + length (content_of cs)) left i → Piece (before + length (content_of ds)) other j → (cs ≡ ds) × (i ≡ j)
aligned [] [] before left other i j x y e w v f g p q =
    (refl, piece_unique (before + 0) other i j w (subst (λ (l : List ℕ). Piece (before + 0) l i) e p) q)
aligned [] (d ∷ ds) before left other i j x y e w v f g p q =
    let more = of_chunk (before + 0) left d ds other (All-head IsChunk d ds y) e (omega (arith, v, length-append d.content (content_of ds))) in
    absurd (subst IsFinal (piece_unique (before + 0) left i _ w p more) f)
aligned (c ∷ cs) [] before left other i j x y e w v f g p q =
    let more = of_chunk (before + 0) other c cs left (All-head IsChunk c cs x) (sym e) (omega (arith, w, length-append c.content (content_of cs))) in
    absurd (subst IsFinal (piece_unique (before + 0) other j _ v q more) g)
aligned (c ∷ cs) (d ∷ ds) before left other i j x y e w v f g p q =
    let h = All-head IsChunk c cs x in
    let k = All-head IsChunk d ds y in
    let same = chunk_line_unique (print_chunks (c ∷ cs) ++ left) c.line d.line (behind_line c cs left) (behind_line d ds other)
    (chunk_line_at (print_chunks (c ∷ cs) ++ left) c cs left h refl) (chunk_line_at (print_chunks (c ∷ cs) ++ left) d ds other k e) in
    let sizes : length c.content ≡ length d.content = h.size ∙ ap chunk_size same.0 ∙ sym k.size in
    let contents = append_same c.content d.content (crlf_bytes ++ (print_chunks cs ++ left)) (crlf_bytes ++ (print_chunks ds ++ other)) sizes same.1 in
    let behind : print_chunks cs ++ left ≡ print_chunks ds ++ other = ap (drop 2) contents.1 in
    let first : before + length (content_of (c ∷ cs)) ≡ (before + length c.content) + length (content_of cs) = omega (arith, length-append c.content (content_of cs)) in
    let second : before + length (content_of (d ∷ ds)) ≡ (before + length c.content) + length (content_of ds) = omega (arith, sizes, length-append d.content (content_of ds)) in
    let more = aligned cs ds (before + length c.content) left other i j (All-tail IsChunk c cs x) (All-tail IsChunk d ds y) behind
    (omega (arith, first, w)) (omega (arith, second, v)) f g
    (subst (λ (n : ℕ). Piece n left i) first p) (subst (λ (n : ℕ). Piece n other j) second q) in
    (joined (whole same.0 contents.0) more.0, more.1)
  where
    whole : c.line ≡ d.line → c.content ≡ d.content → c ≡ d
    whole l s = λ z. record { line = l z; content = s z }

    joined : c ≡ d → cs ≡ ds → c ∷ cs ≡ d ∷ ds
    joined l s = cc

-- ---- bodies

abbrev kind_of : List Chunk → PieceKind → BodyKind
kind_of chunks (piece_good rest) = body_good (content_of chunks) rest
kind_of chunks (piece_bad on) = body_bad (length (print_chunks chunks) + on)
kind_of chunks piece_large = body_large
kind_of chunks piece_cut = body_cut
kind_of chunks (piece_chunk part rest) = body_cut

record Reach (bytes : List ℕ) (k : BodyKind) : Type 0 where
  pub chunks : List Chunk
  pub left : List ℕ
  pub so_far : ChunksSoFar bytes chunks left
  pub piece : PieceKind
  pub final : IsFinal piece
  pub at : Piece (length (content_of chunks)) left piece
  pub same : k ≡ kind_of chunks piece

reach_of : (bytes : List ℕ) (k : BodyKind) → IsBodyKind Chunked bytes k → Reach bytes k
reach_of bytes (body_good body rest) x = record {
  chunks = x.chunks;
  left = x.left;
  so_far = x.so_far;
  piece = piece_good rest;
  final = tt;
  at = with_line x.last x.middle x.line (ends x.zero (tail_good rest) x.trailers refl);
  same = ap (λ (v : List ℕ). body_good v rest) x.same;
}
reach_of bytes (body_bad place) x = let y = x.1 in record {
  chunks = y.chunks;
  left = y.left;
  so_far = y.so_far;
  piece = piece_bad y.on;
  final = tt;
  at = of_bad (length (content_of y.chunks)) y.left y.on y.piece;
  same = ap body_bad y.at;
}
reach_of bytes body_large x = let y = x.1 in record {
  chunks = y.chunks;
  left = y.left;
  so_far = y.so_far;
  piece = piece_large;
  final = tt;
  at = with_line y.line y.middle y.takes (over y.over refl);
  same = refl;
}
reach_of bytes body_cut x = record {
  chunks = x.chunks;
  left = x.left;
  so_far = x.so_far;
  piece = piece_cut;
  final = tt;
  at = of_cut (length (content_of x.chunks)) x.left x.piece;
  same = refl;
}

reach_unique : (bytes : List ℕ) (j k : BodyKind) → Reach bytes j → Reach bytes k → j ≡ k
reach_unique bytes j k x y =
    let both = aligned x.chunks y.chunks 0 x.left y.left x.piece y.piece x.so_far.each y.so_far.each (sym x.so_far.text ∙ y.so_far.text)
    (omega (arith, x.so_far.within)) (omega (arith, y.so_far.within)) x.final y.final
    (subst (λ (n : ℕ). Piece n x.left x.piece) (zero_more (length (content_of x.chunks))) x.at)
    (subst (λ (n : ℕ). Piece n y.left y.piece) (zero_more (length (content_of y.chunks))) y.at) in
    x.same ∙ (λ z. kind_of (both.0 z) (both.1 z)) ∙ sym y.same
  where
    zero_more : (n : ℕ) → n ≡ 0 + n
    zero_more n = omega arith

not_empty : Empty ≡ Chunked → ⊥
not_empty e = cc

not_sized : (n : ℕ) → Length n ≡ Chunked → ⊥
not_sized n e = cc

-- a body has one kind, and one place where it is refused
pub body_kind_unique : (framed : Framing) (bytes : List ℕ) (j k : BodyKind) → IsBodyKind framed bytes j → IsBodyKind framed bytes k → j ≡ k
body_kind_unique Chunked bytes j k x y = reach_unique bytes j k (reach_of bytes j x) (reach_of bytes k y)
body_kind_unique Empty bytes (body_good a r) (body_good b q) x y = let same = body_unique Empty bytes a b r q x y in λ z. body_good (same.0 z) (same.1 z)
body_kind_unique Empty bytes (body_good a r) (body_bad p) x y = absurd (not_empty y.0)
body_kind_unique Empty bytes (body_good a r) body_large x y = absurd (not_empty y.0)
body_kind_unique Empty bytes (body_good a r) body_cut x y = absurd y
body_kind_unique Empty bytes (body_bad p) k x y = absurd (not_empty x.0)
body_kind_unique Empty bytes body_large k x y = absurd (not_empty x.0)
body_kind_unique Empty bytes body_cut k x y = absurd x
body_kind_unique (Length n) bytes (body_good a r) (body_good b q) x y = let same = body_unique (Length n) bytes a b r q x y in λ z. body_good (same.0 z) (same.1 z)
body_kind_unique (Length n) bytes (body_good a r) (body_bad p) x y = absurd (not_sized n y.0)
body_kind_unique (Length n) bytes (body_good a r) body_large x y = absurd (not_sized n y.0)
body_kind_unique (Length n) bytes (body_good a r) body_cut x y = absurd (omega (arith, x.0, ap length x.1, length-append a r, y))
body_kind_unique (Length n) bytes (body_bad p) k x y = absurd (not_sized n x.0)
body_kind_unique (Length n) bytes body_large k x y = absurd (not_sized n x.0)
body_kind_unique (Length n) bytes body_cut (body_good b q) x y = absurd (omega (arith, y.0, ap length y.1, length-append b q, x))
body_kind_unique (Length n) bytes body_cut (body_bad p) x y = absurd (not_sized n y.0)
body_kind_unique (Length n) bytes body_cut body_large x y = absurd (not_sized n y.0)
body_kind_unique (Length n) bytes body_cut body_cut x y = refl
