use Rattle.std.proofs.Common.{◌≡◌, ℕ, ◌+◌, ◌-◌, ◌∙◌, ap, sym, subst, arith}
use Rattle.world_cells.specs.declared.sets.Written.{Written}
use Rattle.world_cells.specs.Reads.{in_span}
use Rattle.view_reads.proofs.Puts.{LastOfFront, last_met, last_past, last_none}
use Rattle.view_reads.proofs.Splits.{last_start, last_gone, in_put}
use Rattle.view_reads.proofs.writes.last_put.Goals as goal

pub loop-at-init : goal.loop-at-init
loop-at-init c = record { to = omega arith; last = last_start _ _ _ c.requires c.passed-at.ensures }

pub returns-then-not-in_span : goal.returns-then-not-in_span
returns-then-not-in_span c =
    let back : c.loop-at.at ≡ c.loop-at.at - 1 + 1 = omega arith in
    last_gone _ _ c.passed-at.result (c.loop-at.at - 1) c.written_at-written.result.now (omega arith) c.requires c.passed-at.ensures
    (ap (λ (w : Written). in_span c.args.span.now w.key) (sym c.written_at-written.ensures) ∙ sym c.in_span.ensures ∙ c.if-not-in_span.true)
    (subst (λ (n : ℕ). LastOfFront c.args.writes.now c.args.span.now n) back c.loop-at.invariant.last)

pub returns-in-Some : goal.returns-in-Some
returns-in-Some c =
    let back : c.loop-at.at ≡ c.loop-at.at - 1 + 1 = omega arith in
    let within = c.passed-at.ensures.within in
    last_met _ _ (c.loop-at.at - 1) c.written_at-written.result.now (omega arith) c.requires (c.in-Some.put.0.now, c.in-Some.put.1.now)
    (in_put c.args.writes.now c.args.span.now (c.loop-at.at - 1) c.written_at-written.result.now _ c.written_at-written.ensures (sym c.in_span.ensures ∙ c.if-not-in_span.false) c.in-Some.ensures)
    (subst (λ (n : ℕ). LastOfFront c.args.writes.now c.args.span.now n) back c.loop-at.invariant.last)

pub loop-at-preserved : goal.loop-at-preserved
loop-at-preserved c =
    let back : c.loop-at.at ≡ c.loop-at.at - 1 + 1 = omega arith in
    let within = c.passed-at.ensures.within in
    record {
      to = omega arith;
      last = last_past _ _ (c.loop-at.at - 1) c.written_at-written.result.now (omega arith) c.requires
          (in_put c.args.writes.now c.args.span.now (c.loop-at.at - 1) c.written_at-written.result.now _ c.written_at-written.ensures (sym c.in_span.ensures ∙ c.if-not-in_span.false) c.in_default.ensures)
          (subst (λ (n : ℕ). LastOfFront c.args.writes.now c.args.span.now n) back c.loop-at.invariant.last);
    }

pub returns : goal.returns
returns c = last_none _ _ c.loop-at.at (omega arith) c.loop-at.invariant.last
