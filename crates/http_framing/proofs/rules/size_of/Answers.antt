use Rattle.std.proofs.Common.{◌+◌, ◌*◌, ◌∙◌, ap, ℕ, min, drop, arith}
use Rattle.std.specs.Str.Parse.{digits_value_after}
use Rattle.http_messages.specs.declared.limits.TheConstants.{BODY_LIMIT}
use Rattle.http_framing.proofs.Sizes.{capped_on}
use Rattle.http_framing.proofs.rules.size_of.Goals as goal

pub loop-digit-preserved : goal.loop-digit-preserved
loop-digit-preserved c =
    let i = c.loop-digit.digit-index in
    let size = c.loop-digit.size in
    record {
      low = omega (arith, c.min-size.ensures);
      rest =
          ap (λ (k : ℕ). min (digits_value_after 10 k (drop (i + 1) c.args.digits.now)) (BODY_LIMIT + 1)) (c.min-size.ensures ∙ ap (λ (k : ℕ). min (size * 10 + k) (BODY_LIMIT + 1)) c.from.ensures)
          ∙ capped_on c.args.digits.now i size c.requires c.loop-digit-test.true ∙ c.loop-digit.invariant.rest;
    }
