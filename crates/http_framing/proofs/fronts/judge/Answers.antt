use Rattle.std.proofs.Common.{sym, subst, ℕ, List, arith}
use Rattle.httparse.specs.Spans.{IsRequestAt}
use Rattle.http_model.specs.Heads.{front, IsOpen, NeverHasHead}
use Rattle.http_framing.specs.Fronts.{WholeHead}
use Rattle.http_framing.proofs.WholeHeads.{whole_reads, whole_fits, whole_within, whole_count}
use Rattle.http_framing.proofs.fronts.judge.Goals as goal

pub returns-in-Open : goal.returns-in-Open
returns-in-Open c = λ buffer same. subst IsOpen same c.in-Open.ensures

pub returns-in-Never : goal.returns-in-Never
returns-in-Never c = λ buffer same. subst NeverHasHead same c.in-Never.ensures

pub returns-then-found-gt-FIELD_LIMIT : goal.returns-then-found-gt-FIELD_LIMIT
returns-then-found-gt-FIELD_LIMIT c = λ buffer same.
    let spans = c.judge_front.new.spans in
    let w : WholeHead (front buffer) spans c.in-Whole.found = subst (λ (b : List ℕ). WholeHead b spans c.in-Whole.found) same c.in-Whole.ensures in (
      w.head,
      _,
      whole_reads buffer spans c.in-Whole.found w,
      whole_fits buffer spans c.in-Whole.found w,
      omega (arith, whole_count buffer spans c.in-Whole.found w, c.if-found-gt-FIELD_LIMIT.true),
    )

pub returns-in-Ok : goal.returns-in-Ok
returns-in-Ok c = λ buffer same.
    let spans = c.judge_front.new.spans in
    let w : WholeHead (front buffer) spans c.in-Whole.found = subst (λ (b : List ℕ). WholeHead b spans c.in-Whole.found) same c.in-Whole.ensures in (
      whole_within buffer spans c.in-Whole.found w,
      w.head,
      whole_reads buffer spans c.in-Whole.found w,
      whole_fits buffer spans c.in-Whole.found w,
      omega (arith, whole_count buffer spans c.in-Whole.found w, c.if-found-gt-FIELD_LIMIT.false),
      c.in-Ok.ensures w.head (subst (λ (b : List ℕ). IsRequestAt b spans c.in-Whole.found w.head) (sym same) w.at),
    )
