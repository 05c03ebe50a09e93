use Rattle.std.proofs.Common.{◌<◌, ◌∙◌, ap, sym, refl, subst, length, arith}
use Rattle.http_model.specs.Heads.{IsOpen, IsEmptyLines}
use Rattle.http_framing.specs.FillLaws.{adds_on}
use Rattle.http_framing.proofs.Takes.{takes_of, open_short}
use Rattle.http_framing.proofs.heads.take_front.Goals as goal
use Rattle.http_messages.specs.declared.limits.TheConstants.{HEAD_LIMIT}

pub returns-in-Never-clause-takes : goal.returns-in-Never-clause-takes
returns-in-Never-clause-takes g c =
    takes_of _ c.reading.buffer _ _ _ _ c.reading.invariant.adds (c.judge.ensures.kept, c.in-Never.ensures.judged)

pub reading-preserved : goal.reading-preserved
reading-preserved g c = record {
  adds = adds_on _ _ _ _ _ _ _ c.reading.invariant.adds c.judge.ensures.kept c.fill.ensures.adds;
  count = c.in-More.ensures.end.1 ∙ c.reading.invariant.count;
}

pub returns-then-is_empty_lines-clause-takes : goal.returns-then-is_empty_lines-clause-takes
returns-then-is_empty_lines-clause-takes g c =
    let end = c.in-End.ensures.end in
    takes_of _ _ _ _ _ _ (adds_on _ _ _ _ _ _ _ c.reading.invariant.adds c.judge.ensures.kept c.fill.ensures.adds) (
      refl,
      end.1,
      (
        omega (arith, ap length end.0, ap length c.as_slice.ensures, c.if-as_slice-ge-HEAD_LIMIT.false),
        subst IsEmptyLines c.as_slice-in-End.ensures (c.heads_are_decided.ensures.blank _ (sym c.is_empty_lines.ensures ∙ c.if-is_empty_lines.true)),
      ),
    )

pub returns-in-End-clause-takes : goal.returns-in-End-clause-takes
returns-in-End-clause-takes g c =
    let end = c.in-End.ensures.end in
    let short : length c.reading.buffer < HEAD_LIMIT = omega (arith, ap length c.as_slice.ensures, ap length c.judge.ensures.kept, c.if-as_slice-ge-HEAD_LIMIT.false) in
    takes_of _ _ _ _ _ _ (adds_on _ _ _ _ _ _ _ c.reading.invariant.adds c.judge.ensures.kept c.fill.ensures.adds) (
      refl,
      end.1,
      omega (arith, ap length end.0, ap length c.judge.ensures.kept, short),
      subst IsOpen (sym (end.0 ∙ c.judge.ensures.kept)) (open_short _ c.in-Open.ensures.judged short),
      λ h. c.heads_are_decided.ensures.not_blank _ (sym c.is_empty_lines.ensures ∙ c.if-is_empty_lines.false) (subst IsEmptyLines (sym c.as_slice-in-End.ensures) h),
    )

pub returns-in-Failed-clause-takes : goal.returns-in-Failed-clause-takes
returns-in-Failed-clause-takes g c =
    let end = c.in-Failed.ensures.end in
    let short : length c.reading.buffer < HEAD_LIMIT = omega (arith, ap length c.as_slice.ensures, ap length c.judge.ensures.kept, c.if-as_slice-ge-HEAD_LIMIT.false) in
    takes_of _ _ _ _ _ _ (adds_on _ _ _ _ _ _ _ c.reading.invariant.adds c.judge.ensures.kept c.fill.ensures.adds) (
      refl,
      omega (arith, ap length end.0, ap length c.judge.ensures.kept, short),
      subst IsOpen (sym (end.0 ∙ c.judge.ensures.kept)) (open_short _ c.in-Open.ensures.judged short),
    )
