use Rattle.std.proofs.Common.{◌<◌, ◌∙◌, ap, sym, subst, length, arith, inl}
use Rattle.http_model.specs.Bodies.{IsBadTrailers}
use Rattle.http_framing.specs.FillLaws.{adds_on}
use Rattle.http_framing.specs.Sections.{IsOpenSection}
use Rattle.http_bodies.proofs.LineFronts.{open_section}
use Rattle.http_bodies.proofs.trailers.take_trailers.Goals as goal
use Rattle.http_messages.specs.declared.limits.TheConstants.{TRAILER_LIMIT}

pub returns-in-Never-clause-trailers : goal.returns-in-Never-clause-trailers
returns-in-Never-clause-trailers g c =
    subst IsBadTrailers (sym c.judge_section.ensures.kept) (c.in-Never.ensures.judged.0, inl c.in-Never.ensures.judged.1)

pub reading-preserved : goal.reading-preserved
reading-preserved g c = record {
  adds = adds_on _ _ _ _ _ _ _ c.reading.invariant.adds c.judge_section.ensures.kept c.fill.ensures.adds;
  count = c.in-More.ensures.end.1 ∙ c.reading.invariant.count;
}

pub returns-in-End-clause-adds : goal.returns-in-End-clause-adds
returns-in-End-clause-adds g c = adds_on _ _ _ _ _ _ _ c.reading.invariant.adds c.judge_section.ensures.kept c.fill.ensures.adds

pub returns-in-End-clause-trailers : goal.returns-in-End-clause-trailers
returns-in-End-clause-trailers g c =
    let end = c.in-End.ensures.end in
    let same = end.0 ∙ c.judge_section.ensures.kept in
    let short : length c.reading.buffer < TRAILER_LIMIT = omega (arith, ap length c.as_slice.ensures, ap length c.judge_section.ensures.kept, c.if-as_slice-ge-TRAILER_LIMIT.false) in
    (omega (arith, ap length same, short), subst IsOpenSection (sym same) (open_section _ c.in-Open.ensures.judged short), end.1)

pub returns-in-Failed-clause-adds : goal.returns-in-Failed-clause-adds
returns-in-Failed-clause-adds g c = adds_on _ _ _ _ _ _ _ c.reading.invariant.adds c.judge_section.ensures.kept c.fill.ensures.adds

pub returns-in-Failed-clause-trailers : goal.returns-in-Failed-clause-trailers
returns-in-Failed-clause-trailers g c =
    let end = c.in-Failed.ensures.end in
    let same = end.0 ∙ c.judge_section.ensures.kept in
    let short : length c.reading.buffer < TRAILER_LIMIT = omega (arith, ap length c.as_slice.ensures, ap length c.judge_section.ensures.kept, c.if-as_slice-ge-TRAILER_LIMIT.false) in
    (omega (arith, ap length same, short), subst IsOpenSection (sym same) (open_section _ c.in-Open.ensures.judged short))
