-- A chunk line at the front of a buffer.
use Rattle.std.proofs.Common.{◌≡◌, ℕ, ◌<◌, ◌≤◌, min, List, [], ◌++◌, length, take, drop, ap, subst, ◌∙◌, arith, append-nil, length-append, length-take, length-drop, take_all}
use Rattle.std.proofs.lemmas.List.{take_min}
use Rattle.httparse.specs.Grammar.{ChunkLine, print_chunk_line, HasNoChunkLine, NeverHasChunkLine}
use Rattle.httparse.specs.Spans.{IsChunkLineAt}
use Rattle.http_framing.specs.FillLaws.{whole_front}
use Rattle.http_framing.specs.Sections.{IsOpenSection}
use Rattle.http_bodies.specs.Lines.{HasLine, IsOpenLine}
use Rattle.http_messages.specs.declared.limits.TheConstants.{CHUNK_LINE_LIMIT, TRAILER_LIMIT}

pub has_line : (buffer bytes : List ℕ) (len size : ℕ) (line : ChunkLine) → bytes ≡ take CHUNK_LINE_LIMIT buffer → IsChunkLineAt bytes len size line → HasLine buffer len size
has_line buffer bytes len size line same at =
    let text = print_chunk_line line in
    let within : len ≤ length bytes = omega (arith, ap length at.reads.1, length-append text (drop len bytes), length-drop len bytes, at.len_is) in
    let front : take CHUNK_LINE_LIMIT buffer ≡ text ++ drop len (take CHUNK_LINE_LIMIT buffer) =
    subst (λ (b : List ℕ). b ≡ text ++ drop len b) same at.reads.1 in
    record {
      line = line;
      takes = record {
        reads = (at.reads.0, whole_front CHUNK_LINE_LIMIT buffer text len front at.len_is);
        fits = omega (arith, at.len_is, within, ap length same, length-take CHUNK_LINE_LIMIT buffer);
      };
      len_is = at.len_is;
      within = omega (arith, within, ap length same, length-take CHUNK_LINE_LIMIT buffer);
      size_is = at.size_is;
    }

pub no_line : (bytes : List ℕ) → NeverHasChunkLine bytes → HasNoChunkLine bytes
no_line bytes h = subst HasNoChunkLine (append-nil bytes) (h [])

-- the front that is judged
pub front_of : (limit k : ℕ) (bytes buffer : List ℕ) → k ≡ min (length bytes) limit → bytes ≡ buffer → take k bytes ≡ take limit buffer
front_of limit k bytes buffer e same =
    let turned : min (length bytes) limit ≡ min limit (length bytes) = omega arith in
    ap (λ (n : ℕ). take n bytes) (e ∙ turned) ∙ take_min limit bytes ∙ ap (take limit) same

pub open_line : (bytes : List ℕ) → IsOpenLine (take CHUNK_LINE_LIMIT bytes) → length bytes < CHUNK_LINE_LIMIT → IsOpenLine bytes
open_line bytes h short = subst IsOpenLine (take_all CHUNK_LINE_LIMIT bytes (omega arith)) h

pub open_section : (bytes : List ℕ) → IsOpenSection (take TRAILER_LIMIT bytes) → length bytes < TRAILER_LIMIT → IsOpenSection bytes
open_section bytes h short = subst IsOpenSection (take_all TRAILER_LIMIT bytes (omega arith)) h
