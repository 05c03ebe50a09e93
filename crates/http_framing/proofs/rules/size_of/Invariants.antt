use Rattle.std.proofs.Common.{◌≡◌, ◌+◌, ◌≤◌, min, drop}
use Rattle.std.specs.Str.Parse.{digits_value_after}
use Rattle.http_messages.specs.declared.limits.TheConstants.{BODY_LIMIT}
use Rattle.http_framing.proofs.rules.size_of.Given as goal

abbrev pub invariant-loop-digit : goal.invariant-loop-digit
invariant-loop-digit l = record {
  low : l.size ≤ (BODY_LIMIT + 1);
  rest : min (digits_value_after 10 l.size (drop l.digit-index l.digits)) (BODY_LIMIT + 1) ≡ min (digits_value_after 10 0 l.digits) (BODY_LIMIT + 1);
}
