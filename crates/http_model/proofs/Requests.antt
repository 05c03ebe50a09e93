-- One stream has one list of messages.
use Rattle.std.proofs.Common.{◌≡◌, ℕ, ◌+◌, Bool, true, false, List, [], ◌∷◌, ◌++◌, length, map, drop, refl, sym, ap, subst, ◌∙◌, arith, append_assoc, ◌⊎◌, inl, inr, All, Ok, Err, Result}
use Rattle.std.specs.Prelude.{IsTrue, IsFalse}
use Rattle.std.proofs.lemmas.Bool.{false≢true}
use Rattle.std.proofs.lemmas.List.Elements.{All-head, All-tail}
use Rattle.httparse.specs.Grammar.{RequestHead, ChunkLine, print_chunk_line, chunk_size, ReadsChunkLine, ReadsSection}
use Rattle.httparse.specs.Ascii.{crlf_bytes}
use Rattle.httparse.proofs.GrammarLemmas.{request_unique, section_unique}
use Rattle.httparse.proofs.ChunkLemmas.{chunk_line_unique}
use Rattle.http_messages.specs.declared.messages.Message.{Message}
use Rattle.http_messages.specs.declared.messages.Field.{Field}
use Rattle.http_model.specs.Heads.{ReadsHead}
use Rattle.http_model.specs.Messages.{IsMessageHead, field_parts}
use Rattle.http_messages.specs.declared.framings.Framing.{Framing}
use Rattle.http_messages.specs.declared.framings.Framing.TheVariants.{Empty, Length, Chunked}
use Rattle.http_messages.specs.declared.framings.HeadFault.{HeadFault}
use Rattle.http_model.specs.Framings.{framing_of, closes}
use Rattle.http_model.specs.Bodies.{ReadsBody, Chunk, IsChunk, print_chunks, content_of, ReadsChunked}
use Rattle.http_model.specs.Requests.{ReadsWholeHead, ReadsMessage, ReadsMessages, LastMessageCloses, HasNoMessage, AreRequests}

-- ---- heads

pub head_unique : (bytes : List ℕ) (h k : RequestHead) (r q : List ℕ) → ReadsHead bytes h r → ReadsHead bytes k q → (h ≡ k) × (r ≡ q)
head_unique bytes h k r q x y = request_unique bytes h k r q x.reads y.reads

fields_same : (a b : List Field) → map field_parts a ≡ map field_parts b → a ≡ b
fields_same [] [] e = refl
fields_same [] (g ∷ b) e = cc
fields_same (f ∷ a) [] e = cc
fields_same (f ∷ a) (g ∷ b) e = joined (first e) (fields_same a b (rest e))
  where
    first : map field_parts (f ∷ a) ≡ map field_parts (g ∷ b) → f ≡ g
    first k =
        let pair : field_parts f ≡ field_parts g = cc in
        λ i. record { name = (pair i).0; value = (pair i).1 }

    rest : map field_parts (f ∷ a) ≡ map field_parts (g ∷ b) → map field_parts a ≡ map field_parts b
    rest k = cc

    joined : f ≡ g → a ≡ b → f ∷ a ≡ g ∷ b
    joined p q = cc

message_same : (h : RequestHead) (m n : Message) → IsMessageHead m h → IsMessageHead n h → m ≡ n
message_same h m n x y =
    let method : m.method ≡ n.method = x.method ∙ sym y.method in
    let target : m.target ≡ n.target = x.target ∙ sym y.target in
    let minor : m.minor ≡ n.minor = x.minor ∙ sym y.minor in
    let fields : m.fields ≡ n.fields = fields_same m.fields n.fields (x.fields ∙ sym y.fields) in
    let body : m.body ≡ n.body = x.body ∙ sym y.body in
    λ i. record { method = method i; target = target i; minor = minor i; fields = fields i; body = body i }

pub whole_head_unique : (bytes : List ℕ) (m n : Message) (r q : List ℕ) → ReadsWholeHead bytes m r → ReadsWholeHead bytes n q → (m ≡ n) × (r ≡ q)
whole_head_unique bytes m n r q x y =
    let same = head_unique bytes x.head y.head r q x.reads y.reads in
    (message_same y.head m n (subst (IsMessageHead m) same.0 x.message) y.message, same.1)

-- ---- bodies

pub append_same : (a b r q : List ℕ) → length a ≡ length b → a ++ r ≡ b ++ q → (a ≡ b) × (r ≡ q)
append_same [] [] r q n e = (refl, e)
append_same [] (y ∷ b) r q n e = absurd (omega arith)
append_same (x ∷ a) [] r q n e = absurd (omega arith)
append_same (x ∷ a) (y ∷ b) r q n e =
    let more = append_same a b r q (omega arith) (ap (drop 1) e) in
    (joined (first e) more.0, more.1)
  where
    first : x ∷ (a ++ r) ≡ y ∷ (b ++ q) → x ≡ y
    first k = cc

    joined : x ≡ y → a ≡ b → x ∷ a ≡ y ∷ b
    joined p s = cc

-- what stands behind the line of a first chunk
abbrev pub behind_line : Chunk → List Chunk → List ℕ → List ℕ
behind_line c cs left = c.content ++ (crlf_bytes ++ (print_chunks cs ++ left))

pub chunk_line_at : (bytes : List ℕ) (c : Chunk) (cs : List Chunk) (left : List ℕ) → IsChunk c → bytes ≡ print_chunks (c ∷ cs) ++ left
    → ReadsChunkLine bytes c.line (behind_line c cs left)
chunk_line_at bytes c cs left h e = (h.line, e ∙ regroup (print_chunk_line c.line) c.content crlf_bytes (print_chunks cs) left)
  where
    regroup : (a b e d l : List ℕ) → (a ++ b ++ e ++ d) ++ l ≡ a ++ (b ++ (e ++ (d ++ l)))
    regroup a b e d l = simp append_assoc

-- the chunks before a last chunk
chunks_same : (cs ds : List Chunk) (left other : List ℕ) (last end : ChunkLine) (r q : List ℕ) → All IsChunk cs → All IsChunk ds
    → print_chunks cs ++ left ≡ print_chunks ds ++ other → ReadsChunkLine left last r → chunk_size last ≡ 0 → ReadsChunkLine other end q → chunk_size end ≡ 0
    → (cs ≡ ds) × (left ≡ other)
chunks_same [] [] left other last end r q x y e l zl o zo = (refl, e)
chunks_same [] (d ∷ ds) left other last end r q x y e l zl o zo =
    let h = All-head IsChunk d ds y in
    let same = chunk_line_unique left last d.line r (behind_line d ds other) l (chunk_line_at left d ds other h e) in
    absurd (omega (arith, ap chunk_size same.0, zl, h.some))
chunks_same (c ∷ cs) [] left other last end r q x y e l zl o zo =
    let h = All-head IsChunk c cs x in
    let same = chunk_line_unique other end c.line q (behind_line c cs left) o (chunk_line_at other c cs left h (sym e)) in
    absurd (omega (arith, ap chunk_size same.0, zo, h.some))
chunks_same (c ∷ cs) (d ∷ ds) left other last end r q x y e l zl o zo =
    let h = All-head IsChunk c cs x in
    let k = All-head IsChunk d ds y in
    let same = chunk_line_unique (print_chunks (c ∷ cs) ++ left) c.line d.line (behind_line c cs left) (behind_line d ds other)
    (chunk_line_at (print_chunks (c ∷ cs) ++ left) c cs left h refl) (chunk_line_at (print_chunks (c ∷ cs) ++ left) d ds other k e) in
    let sizes : length c.content ≡ length d.content = h.size ∙ ap chunk_size same.0 ∙ sym k.size in
    let contents = append_same c.content d.content (crlf_bytes ++ (print_chunks cs ++ left)) (crlf_bytes ++ (print_chunks ds ++ other)) sizes same.1 in
    let behind : print_chunks cs ++ left ≡ print_chunks ds ++ other = ap (drop 2) contents.1 in
    let more = chunks_same cs ds left other last end r q (All-tail IsChunk c cs x) (All-tail IsChunk d ds y) behind l zl o zo in
    (joined (whole same.0 contents.0) more.0, more.1)
  where
    whole : c.line ≡ d.line → c.content ≡ d.content → c ≡ d
    whole p s = λ i. record { line = p i; content = s i }

    joined : c ≡ d → cs ≡ ds → c ∷ cs ≡ d ∷ ds
    joined p s = cc

chunked_unique : (bytes a b r q : List ℕ) → ReadsChunked bytes a r → ReadsChunked bytes b q → (a ≡ b) × (r ≡ q)
chunked_unique bytes a b r q x y =
    let same = chunks_same x.chunks y.chunks x.left y.left x.last y.last x.middle y.middle x.so_far.each y.so_far.each
    (sym x.so_far.text ∙ y.so_far.text) x.line.reads x.zero y.line.reads y.zero in
    let lines = chunk_line_unique y.left x.last y.last x.middle y.middle (subst (λ (l : List ℕ). ReadsChunkLine l x.last x.middle) same.1 x.line.reads) y.line.reads in
    let ends = section_unique y.middle x.trailers.fields y.trailers.fields x.trailers.last y.trailers.last r q
    (subst (λ (l : List ℕ). ReadsSection l x.trailers.fields x.trailers.last r) lines.1 x.trailers.reads) y.trailers.reads in
    (x.same ∙ ap content_of same.0 ∙ sym y.same, ends.2)

pub body_unique : (framed : Framing) (bytes a b r q : List ℕ) → ReadsBody framed bytes a r → ReadsBody framed bytes b q → (a ≡ b) × (r ≡ q)
body_unique Empty bytes a b r q x y = (x.0 ∙ sym y.0, sym x.1 ∙ y.1)
body_unique (Length n) bytes a b r q x y = append_same a b r q (x.0 ∙ sym y.0) (sym x.1 ∙ y.1)
body_unique Chunked bytes a b r q x y = chunked_unique bytes a b r q x y

-- ---- messages

framed_of : Result Framing HeadFault → Framing
framed_of (Ok f) = f
framed_of (Err e) = Empty

pub message_unique : (bytes : List ℕ) (m n : Message) (r q : List ℕ) → ReadsMessage bytes m r → ReadsMessage bytes n q → (m ≡ n) × (r ≡ q)
unfolding framed_of
message_unique bytes m n r q x y =
    let heads = whole_head_unique bytes x.bare y.bare x.middle y.middle x.head y.head in
    let kinds : x.framed ≡ y.framed = ap framed_of (sym x.framing ∙ ap framing_of heads.0 ∙ y.framing) in
    let content : ReadsBody y.framed y.middle m.body r =
    subst (λ (f : Framing). ReadsBody f y.middle m.body r) kinds (subst (λ (l : List ℕ). ReadsBody x.framed l m.body r) heads.1 x.content) in
    let bodies = body_unique y.framed y.middle m.body n.body r q content y.content in
    (x.same ∙ joined heads.0 bodies.0 ∙ sym y.same, bodies.1)
  where
    joined : x.bare ≡ y.bare → m.body ≡ n.body → record x.bare { body = m.body } ≡ record y.bare { body = n.body }
    joined p s = λ i. record (p i) { body = s i }

-- ---- streams

pub not_both : (b : Bool) → IsFalse b → IsTrue b → ⊥
not_both true f t = false≢true (sym f)
not_both false f t = false≢true t

-- the messages of a stream are one list
pub requests_unique : (i : ℕ) (bytes : List ℕ) (ms ns : List Message) (r q : List ℕ) → AreRequests i bytes ms r → AreRequests i bytes ns q → (ms ≡ ns) × (r ≡ q)
requests_unique i bytes [] [] r q x y = (refl, sym x.reads ∙ y.reads)
requests_unique i bytes [] (n ∷ ns) r q x y = absurd (none x.longest)
  where
    none : LastMessageCloses i [] ⊎ HasNoMessage r → ⊥
    none (inl h) = h
    none (inr h) = h n y.reads.0 (subst (λ (l : List ℕ). ReadsMessage l n y.reads.0) x.reads y.reads.1)
requests_unique i bytes (m ∷ ms) [] r q x y = absurd (none y.longest)
  where
    none : LastMessageCloses i [] ⊎ HasNoMessage q → ⊥
    none (inl h) = h
    none (inr h) = h m x.reads.0 (subst (λ (l : List ℕ). ReadsMessage l m x.reads.0) y.reads x.reads.1)
requests_unique i bytes (m ∷ ms) (n ∷ ns) r q x y =
    let first = message_unique bytes m n x.reads.0 y.reads.0 x.reads.1 y.reads.1 in
    let rest = at (requests_unique (i + 1) y.reads.0 ms ns r q) first.0
    (subst (λ (l : List ℕ). ReadsMessages (i + 1) l ms r) first.1 x.reads.3) (ends m ms r x.longest) (ends n ns q y.longest) in
    (joined first.0 rest.0, rest.1)
  where
    ends : (k : Message) (ks : List Message) (l : List ℕ) → LastMessageCloses i (k ∷ ks) ⊎ HasNoMessage l
        → ((ks ≡ []) × IsTrue (closes k (i + 1))) ⊎ (LastMessageCloses (i + 1) ks ⊎ HasNoMessage l)
    ends k ks l (inl (inl h)) = inl h
    ends k ks l (inl (inr h)) = inr (inl h)
    ends k ks l (inr h) = inr (inr h)

    nothing : (ks : List Message) (b l : List ℕ) → ks ≡ [] → ReadsMessages (i + 1) b ks l → b ≡ l
    nothing ks b l e h = subst (λ (v : List Message). ReadsMessages (i + 1) b v l) e h

    both_end : ms ≡ [] → ns ≡ [] → ReadsMessages (i + 1) y.reads.0 ms r → (ms ≡ ns) × (r ≡ q)
    both_end p s h = (p ∙ sym s, sym (nothing ms y.reads.0 r p h) ∙ nothing ns y.reads.0 q s y.reads.3)

    at : (AreRequests (i + 1) y.reads.0 ms r → AreRequests (i + 1) y.reads.0 ns q → (ms ≡ ns) × (r ≡ q)) → m ≡ n
        → ReadsMessages (i + 1) y.reads.0 ms r
        → ((ms ≡ []) × IsTrue (closes m (i + 1))) ⊎ (LastMessageCloses (i + 1) ms ⊎ HasNoMessage r)
        → ((ns ≡ []) × IsTrue (closes n (i + 1))) ⊎ (LastMessageCloses (i + 1) ns ⊎ HasNoMessage q)
        → (ms ≡ ns) × (r ≡ q)
    at next e h (inl (p, closing)) other = goes y.reads.2
      where
        goes : (ns ≡ []) ⊎ IsFalse (closes n (i + 1)) → (ms ≡ ns) × (r ≡ q)
        goes (inl s) = both_end p s h
        goes (inr stays) = absurd (not_both (closes n (i + 1)) stays (subst (λ (k : Message). IsTrue (closes k (i + 1))) e closing))
    at next e h (inr more) (inl (s, closing)) = goes x.reads.2
      where
        goes : (ms ≡ []) ⊎ IsFalse (closes m (i + 1)) → (ms ≡ ns) × (r ≡ q)
        goes (inl p) = both_end p s h
        goes (inr stays) = absurd (not_both (closes m (i + 1)) stays (subst (λ (k : Message). IsTrue (closes k (i + 1))) (sym e) closing))
    at next e h (inr more) (inr others) = next (record { reads = h; longest = more }) (record { reads = y.reads.3; longest = others })

    joined : m ≡ n → ms ≡ ns → m ∷ ms ≡ n ∷ ns
    joined p s = cc
