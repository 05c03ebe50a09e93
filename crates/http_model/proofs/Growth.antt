-- What was said of a rest stays so when more bytes are there, but that it is open or cut.
use Rattle.std.proofs.Common.{◌≡◌, ℕ, zero, suc, ◌≤◌, Bool, List, [], ◌∷◌, ◌++◌, length, take, refl, sym, ap, subst, ◌∙◌, arith, append_assoc, ◌⊎◌, inl, inr, length-append}
use Rattle.std.proofs.lemmas.List.{take-append-le}
use Rattle.httparse.specs.Grammar.{ChunkLine, print_chunk_line, ReadsChunkLine, NeverHasChunkLine, RequestHead, ReadsSection, NeverHasSection}
use Rattle.httparse.proofs.GrammarLemmas.{ReadsRequest-append}
use Rattle.http_messages.specs.declared.messages.Message.{Message}
use Rattle.http_messages.specs.declared.framings.RefusedRest.{RefusedRest}
use Rattle.http_messages.specs.declared.framings.RefusedRest.TheVariants.{Hopeless, TooLarge, TooMany, Head, BadChunk, LargeBody}
use Rattle.http_model.specs.Heads.{ReadsHead, NeverHasHead, IsOpen, front}
use Rattle.http_model.specs.Requests.{ReadsWholeHead, ReadsMessage}
use Rattle.http_model.specs.Rests.{Accepts, IsRefused, IsEarly}
use Rattle.http_model.specs.Exchanges.{Plans, Exchange, Runs}
use Rattle.http_model.proofs.Heads.{never_more}
use Rattle.http_messages.specs.declared.framings.Framing.{Framing}
use Rattle.http_messages.specs.declared.framings.Framing.TheVariants.{Empty, Length, Chunked}
use Rattle.http_model.specs.Bodies.{TakesChunkLine, TakesTrailers, print_chunks, content_of, IsBadLine, IsBadTrailers, IsBadEnd, IsBadPiece, bad_line, bad_end, bad_trailers, IsBadChunked, IsLargeChunked, ReadsBody}
use Rattle.http_messages.specs.declared.limits.TheConstants.{CHUNK_LINE_LIMIT, HEAD_LIMIT, TRAILER_LIMIT}

front_more : (a b c more : List ℕ) → a ≡ b ++ c → a ++ more ≡ b ++ (c ++ more)
front_more a b c more e = ap (λ (l : List ℕ). l ++ more) e ∙ append_assoc b c more

takes_more : (bytes : List ℕ) (l : ChunkLine) (rest more : List ℕ) → TakesChunkLine bytes l rest → TakesChunkLine (bytes ++ more) l (rest ++ more)
takes_more bytes l rest more t = record { reads = (t.reads.0, front_more bytes (print_chunk_line l) rest more t.reads.1); fits = t.fits }

trailers_more : (bytes rest more : List ℕ) → TakesTrailers bytes rest → TakesTrailers (bytes ++ more) (rest ++ more)
trailers_more bytes rest more t = record { fields = t.fields; last = t.last; reads = (t.reads.0, front_more bytes _ rest more t.reads.1); fits = t.fits }

-- the first bytes of a longer text begin with those of the text
taken_more : (n : ℕ) (a more : List ℕ) → (z : List ℕ) × (take n (a ++ more) ≡ take n a ++ z)
taken_more zero a more = ([], refl)
taken_more (suc n) [] more = (take (suc n) more, refl)
taken_more (suc n) (b ∷ a) more = let r = taken_more n a more in (r.0, ap (λ (l : List ℕ). b ∷ l) r.1)

bad_line_more : (bytes more : List ℕ) → IsBadLine bytes → IsBadLine (bytes ++ more)
bad_line_more bytes more x = at x.1
  where
    at : NeverHasChunkLine (take CHUNK_LINE_LIMIT bytes) ⊎ (CHUNK_LINE_LIMIT ≤ length bytes) → IsBadLine (bytes ++ more)
    at (inl dead) =
        let t = taken_more CHUNK_LINE_LIMIT bytes more in (
          λ l rest r. dead t.0 l rest (subst (λ (b : List ℕ). ReadsChunkLine b l rest) t.1 r),
          inl (λ z l rest r. dead (t.0 ++ z) l rest (subst (λ (b : List ℕ). ReadsChunkLine b l rest) (ap (λ (b : List ℕ). b ++ z) t.1 ∙ append_assoc (take CHUNK_LINE_LIMIT bytes) t.0 z) r)),
        )
    at (inr full) = (
      λ l rest r. x.0 l rest (subst (λ (b : List ℕ). ReadsChunkLine b l rest) (take-append-le CHUNK_LINE_LIMIT bytes more full) r),
      inr (omega (arith, full, length-append bytes more)),
    )

bad_trailers_more : (bytes more : List ℕ) → IsBadTrailers bytes → IsBadTrailers (bytes ++ more)
bad_trailers_more bytes more x = at x.1
  where
    at : NeverHasSection (take TRAILER_LIMIT bytes) ⊎ (TRAILER_LIMIT ≤ length bytes) → IsBadTrailers (bytes ++ more)
    at (inl dead) =
        let t = taken_more TRAILER_LIMIT bytes more in (
          λ f l rest r. dead t.0 f l rest (subst (λ (b : List ℕ). ReadsSection b f l rest) t.1 r),
          inl (λ z f l rest r. dead (t.0 ++ z) f l rest (subst (λ (b : List ℕ). ReadsSection b f l rest) (ap (λ (b : List ℕ). b ++ z) t.1 ∙ append_assoc (take TRAILER_LIMIT bytes) t.0 z) r)),
        )
    at (inr full) = (
      λ f l rest r. x.0 f l rest (subst (λ (b : List ℕ). ReadsSection b f l rest) (take-append-le TRAILER_LIMIT bytes more full) r),
      inr (omega (arith, full, length-append bytes more)),
    )

bad_end_more : (after more : List ℕ) → IsBadEnd after → IsBadEnd (after ++ more)
bad_end_more [] more x = absurd x
bad_end_more (b ∷ []) [] x = x
bad_end_more (b ∷ []) (c ∷ more) x = inl x
bad_end_more (b ∷ c ∷ after) more x = x

bad_piece_more : (before : ℕ) (bytes more : List ℕ) (on : ℕ) → IsBadPiece before bytes on → IsBadPiece before (bytes ++ more) on
bad_piece_more before bytes more _ (bad_line x) = bad_line (bad_line_more bytes more x)
bad_piece_more before bytes more _ (bad_end l middle part after t s w e p x) =
    bad_end l (middle ++ more) part (after ++ more) (takes_more bytes l middle more t) s w (front_more middle part after more e) p (bad_end_more after more x)
bad_piece_more before bytes more _ (bad_trailers l middle t z x) =
    bad_trailers l (middle ++ more) (takes_more bytes l middle more t) z (bad_trailers_more middle more x)

pub bad_chunked_more : (bytes more : List ℕ) (place : ℕ) → IsBadChunked bytes place → IsBadChunked (bytes ++ more) place
bad_chunked_more bytes more place x = record {
  chunks = x.chunks;
  left = x.left ++ more;
  so_far = record { each = x.so_far.each; within = x.so_far.within; text = front_more bytes (print_chunks x.chunks) x.left more x.so_far.text };
  on = x.on;
  piece = bad_piece_more (length (content_of x.chunks)) x.left more x.on x.piece;
  at = x.at;
}

pub large_chunked_more : (bytes more : List ℕ) → IsLargeChunked bytes → IsLargeChunked (bytes ++ more)
large_chunked_more bytes more x = record {
  chunks = x.chunks;
  left = x.left ++ more;
  so_far = record { each = x.so_far.each; within = x.so_far.within; text = front_more bytes (print_chunks x.chunks) x.left more x.so_far.text };
  line = x.line;
  middle = x.middle ++ more;
  takes = takes_more x.left x.line x.middle more x.takes;
  over = x.over;
}

pub body_more : (framed : Framing) (bytes more body rest : List ℕ) → ReadsBody framed bytes body rest → ReadsBody framed (bytes ++ more) body (rest ++ more)
body_more Empty bytes more body rest x = (x.0, ap (λ (l : List ℕ). l ++ more) x.1)
body_more (Length n) bytes more body rest x = (x.0, front_more bytes body rest more x.1)
body_more Chunked bytes more body rest x = record {
  chunks = x.chunks;
  left = x.left ++ more;
  so_far = record { each = x.so_far.each; within = x.so_far.within; text = front_more bytes (print_chunks x.chunks) x.left more x.so_far.text };
  last = x.last;
  middle = x.middle ++ more;
  line = takes_more x.left x.last x.middle more x.line;
  zero = x.zero;
  trailers = trailers_more x.middle rest more x.trailers;
  same = x.same;
}

-- ---- heads

pub head_more : (bytes more : List ℕ) (h : RequestHead) (rest : List ℕ) → ReadsHead bytes h rest → ReadsHead (bytes ++ more) h (rest ++ more)
head_more bytes more h rest x = record { reads = ReadsRequest-append bytes h rest more x.reads; target = x.target }

pub whole_more : (bytes more : List ℕ) (m : Message) (rest : List ℕ) → ReadsWholeHead bytes m rest → ReadsWholeHead (bytes ++ more) m (rest ++ more)
whole_more bytes more m rest x =
    record { head = x.head; reads = head_more bytes more x.head rest x.reads; fits = x.fits; fields = x.fields; message = x.message }

pub never_front_more : (bytes more : List ℕ) → NeverHasHead (front bytes) → NeverHasHead (front (bytes ++ more))
never_front_more bytes more x =
    let t = taken_more HEAD_LIMIT bytes more in subst NeverHasHead (sym t.1) (never_more (front bytes) t.0 x)

pub open_front_more : (bytes more : List ℕ) → HEAD_LIMIT ≤ length bytes → IsOpen (front bytes) → IsOpen (front (bytes ++ more))
open_front_more bytes more full x = subst IsOpen (sym (take-append-le HEAD_LIMIT bytes more full)) x

-- ---- messages

pub message_more : (bytes more : List ℕ) (m : Message) (rest : List ℕ) → ReadsMessage bytes m rest → ReadsMessage (bytes ++ more) m (rest ++ more)
message_more bytes more m rest x = record {
  bare = x.bare;
  middle = x.middle ++ more;
  head = whole_more bytes more x.bare x.middle x.head;
  framed = x.framed;
  framing = x.framing;
  content = body_more x.framed x.middle more m.body rest x.content;
  same = x.same;
}

pub runs_more : {T E : Type 0} → (plans : Plans T E) (i : ℕ) (bytes more : List ℕ) (xs : List (Exchange E)) (j : ℕ) (rest : List ℕ) → Runs plans i bytes xs j rest
    → Runs plans i (bytes ++ more) xs j (rest ++ more)
runs_more plans i bytes more [] j rest h = (h.0, ap (λ (l : List ℕ). l ++ more) h.1)
runs_more plans i bytes more (x ∷ xs) j rest h =
    (h.0 ++ more, message_more bytes more x.message h.0 h.1, h.2, h.3, runs_more plans x.number h.0 more xs j rest h.4)

-- ---- rests

accepts_more : (bytes more : List ℕ) (m : Message) (framing : Framing) (after : List ℕ) → Accepts bytes m framing after → Accepts (bytes ++ more) m framing (after ++ more)
accepts_more bytes more m framing after x = record { head = whole_more bytes more m after x.head; framed = x.framed }

pub refused_more : (bytes more : List ℕ) (why : RefusedRest) (early : List ℕ) (only : Bool) → IsRefused bytes why early only → IsRefused (bytes ++ more) why early only
refused_more bytes more Hopeless early only h = (never_front_more bytes more h.0, h.1, h.2)
refused_more bytes more TooLarge early only h = (omega (arith, length-append bytes more, h.0), open_front_more bytes more h.0 h.1, h.2, h.3)
refused_more bytes more TooMany early only h = (h.0, h.1 ++ more, head_more bytes more h.0 h.1 h.2, h.3, h.4, h.5, h.6)
refused_more bytes more (Head r) early only h = (h.0, h.1 ++ more, whole_more bytes more h.0 h.1 h.2, h.3, h.4, h.5)
refused_more bytes more BadChunk early only h =
    (h.0, h.1 ++ more, accepts_more bytes more h.0 Chunked h.1 h.2, (h.3.0, bad_chunked_more h.1 more h.3.0 h.3.1), h.4, h.5)
refused_more bytes more LargeBody early only h =
    (h.0, h.1 ++ more, accepts_more bytes more h.0 Chunked h.1 h.2, large_chunked_more h.1 more h.3, h.4, h.5)

pub early_more : (bytes more text : List ℕ) → IsEarly bytes text → IsEarly (bytes ++ more) text
early_more bytes more text (inl e) = inl e
early_more bytes more text (inr h) = inr (h.0, h.1 ++ more, h.2, accepts_more bytes more h.0 h.2 h.1 h.3, h.4)
