use Rattle.std.proofs.Common.{◌<◌, ap, sym, subst, length, arith, inl, inr}
use Rattle.http_framing.specs.FillLaws.{adds_then}
use Rattle.http_bodies.specs.Lines.{IsOpenLine}
use Rattle.http_bodies.proofs.LineFronts.{front_of, open_line}
use Rattle.http_bodies.proofs.lines.take_line.Goals as goal
use Rattle.http_messages.specs.declared.limits.TheConstants.{CHUNK_LINE_LIMIT}

pub returns-in-Whole-clause-line : goal.returns-in-Whole-clause-line
returns-in-Whole-clause-line g c = c.in-Whole.ensures c.reading.buffer (front_of CHUNK_LINE_LIMIT _ _ _ c.min.ensures c.as_slice-bytes.ensures)

pub returns-in-Never-clause-line : goal.returns-in-Never-clause-line
returns-in-Never-clause-line g c =
    let bad = c.in-Never.ensures c.reading.buffer (front_of CHUNK_LINE_LIMIT _ _ _ c.min.ensures c.as_slice-bytes.ensures) in
    (bad.0, inl bad.1)

pub returns-then-bytes-ge-CHUNK_LINE_LIMIT-clause-line : goal.returns-then-bytes-ge-CHUNK_LINE_LIMIT-clause-line
returns-then-bytes-ge-CHUNK_LINE_LIMIT-clause-line g c =
    let may = c.in-Open.ensures c.reading.buffer (front_of CHUNK_LINE_LIMIT _ _ _ c.min.ensures c.as_slice-bytes.ensures) in
    (may.none, inr (omega (arith, ap length c.as_slice-bytes.ensures, c.if-bytes-ge-CHUNK_LINE_LIMIT.true)))

pub returns-in-End-clause-adds : goal.returns-in-End-clause-adds
returns-in-End-clause-adds g c = adds_then _ _ _ _ _ _ c.reading.invariant.adds c.fill.ensures.adds

pub returns-in-End-clause-line : goal.returns-in-End-clause-line
returns-in-End-clause-line g c =
    let end = c.in-End.ensures.end in
    let short : length c.reading.buffer < CHUNK_LINE_LIMIT = omega (arith, ap length c.as_slice-bytes.ensures, c.if-bytes-ge-CHUNK_LINE_LIMIT.false) in
    let may = c.in-Open.ensures c.reading.buffer (front_of CHUNK_LINE_LIMIT _ _ _ c.min.ensures c.as_slice-bytes.ensures) in
    (omega (arith, ap length end.0, short), subst IsOpenLine (sym end.0) (open_line _ may short), end.1)

pub returns-in-Failed-clause-adds : goal.returns-in-Failed-clause-adds
returns-in-Failed-clause-adds g c = adds_then _ _ _ _ _ _ c.reading.invariant.adds c.fill.ensures.adds

pub returns-in-Failed-clause-line : goal.returns-in-Failed-clause-line
returns-in-Failed-clause-line g c =
    let end = c.in-Failed.ensures.end in
    let short : length c.reading.buffer < CHUNK_LINE_LIMIT = omega (arith, ap length c.as_slice-bytes.ensures, c.if-bytes-ge-CHUNK_LINE_LIMIT.false) in
    let may = c.in-Open.ensures c.reading.buffer (front_of CHUNK_LINE_LIMIT _ _ _ c.min.ensures c.as_slice-bytes.ensures) in
    (omega (arith, ap length end.0, short), subst IsOpenLine (sym end.0) (open_line _ may short))
