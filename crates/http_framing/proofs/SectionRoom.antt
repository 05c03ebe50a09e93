-- A section of fields at the front of a buffer.
use Rattle.std.proofs.Common.{◌≡◌, ℕ, ◌*◌, ◌≤◌, List, [], ◌++◌, length, take, drop, ap, subst, arith, append-nil, length-append, length-take}
use Rattle.std.specs.List.{flat_map}
use Rattle.httparse.specs.Grammar.{Field, LineEnd, lf, print_end, print_field, print_section, HasNoSection, NeverHasSection}
use Rattle.httparse.specs.Spans.{SectionExceeds, IsSectionAt}
use Rattle.httparse.specs.declared.spans.HeaderSpan.{HeaderSpan}
use Rattle.http_model.specs.Bodies.{TakesTrailers}
use Rattle.http_model.specs.MessageLaws.{fields_length}
use Rattle.http_framing.specs.FillLaws.{whole_front}
use Rattle.http_messages.specs.declared.limits.TheConstants.{TRAILER_LIMIT}

-- the room is enough for the fields of so many bytes
pub section_room : (p : List ℕ) (room : ℕ) → length p ≤ 3 * room → SectionExceeds room p → ⊥
section_room p room enough (front, rest, parts, fields, reads, over) =
    omega (
      arith,
      over,
      fields_length fields reads.0,
      ap length reads.1,
      ap length parts,
      length-append front rest,
      length-append front (print_end lf),
      length-append (print_section fields lf) [],
      length-append (flat_map print_field fields) (print_end lf),
    )

pub whole_section : (buffer bytes : List ℕ) (headers : List HeaderSpan) (len count : ℕ) (fields : List Field) (last : LineEnd) → bytes ≡ take TRAILER_LIMIT buffer → len ≤ length bytes
    → IsSectionAt bytes 0 headers len count fields last → (len ≤ length buffer) × TakesTrailers buffer (drop len buffer)
whole_section buffer bytes headers len count fields last same within at =
    let size : len ≡ length (print_section fields last) = omega (arith, at.len_is) in
    let front : take TRAILER_LIMIT buffer ≡ print_section fields last ++ drop len (take TRAILER_LIMIT buffer) =
    subst (λ (b : List ℕ). b ≡ print_section fields last ++ drop len b) same at.reads.1 in (
      omega (arith, within, ap length same, length-take TRAILER_LIMIT buffer),
      record {
        fields = fields;
        last = last;
        reads = (at.reads.0, whole_front TRAILER_LIMIT buffer (print_section fields last) len front size);
        fits = omega (arith, size, within, ap length same, length-take TRAILER_LIMIT buffer);
      },
    )

pub none_of_never : (bytes : List ℕ) → NeverHasSection bytes → HasNoSection bytes
none_of_never bytes h = subst HasNoSection (append-nil bytes) (h [])
