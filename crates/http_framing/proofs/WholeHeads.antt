-- A whole head at the front of a buffer.
use Rattle.std.proofs.Common.{◌≡◌, ℕ, ◌≤◌, List, length, take, drop, ap, arith, length-take}
use Rattle.std.proofs.lemmas.List.{length-map}
use Rattle.httparse.specs.Grammar.{print_request}
use Rattle.httparse.specs.Spans.{header_bytes, name_and_value}
use Rattle.httparse.specs.declared.spans.HeaderSpan.{HeaderSpan}
use Rattle.httparse.specs.declared.spans.RequestSpans.{RequestSpans}
use Rattle.http_model.specs.Heads.{ReadsHead, front}
use Rattle.http_model.specs.Messages.{FitsHeadLimit}
use Rattle.http_framing.specs.FillLaws.{whole_front}
use Rattle.http_framing.specs.Fronts.{WholeHead}
use Rattle.http_messages.specs.declared.limits.TheConstants.{HEAD_LIMIT}

pub whole_reads : (buf : List ℕ) (headers : List HeaderSpan) (spans : RequestSpans) (w : WholeHead (front buf) headers spans) → ReadsHead buf w.head (drop spans.len buf)
whole_reads buf headers spans w =
    record { reads = (w.at.reads.0, whole_front HEAD_LIMIT buf (print_request w.head) spans.len w.at.reads.1 w.at.len); target = w.target }

pub whole_fits : (buf : List ℕ) (headers : List HeaderSpan) (spans : RequestSpans) (w : WholeHead (front buf) headers spans) → FitsHeadLimit w.head
whole_fits buf headers spans w = omega (arith, w.at.len, w.within.section.len_fits, length-take HEAD_LIMIT buf)

pub whole_within : (buf : List ℕ) (headers : List HeaderSpan) (spans : RequestSpans) (w : WholeHead (front buf) headers spans) → spans.len ≤ length buf
whole_within buf headers spans w = omega (arith, w.within.section.len_fits, length-take HEAD_LIMIT buf)

pub whole_count : (buf : List ℕ) (headers : List HeaderSpan) (spans : RequestSpans) (w : WholeHead (front buf) headers spans) → spans.headers ≡ length w.head.fields
whole_count buf headers spans w =
    let same = ap length w.at.fields in
    omega (
      arith,
      same,
      length-map (take spans.headers headers) (header_bytes (front buf)),
      length-map w.head.fields name_and_value,
      length-take spans.headers headers,
      w.within.section.count_fits,
    )
