use Rattle.std.proofs.Common.{◌≡◌, ◌-◌, ◌≤◌, length, take, drop}
use Rattle.http_model.specs.Framings.{comma_parts}
use Rattle.http_framing.proofs.CommaParts.{joined}
use Rattle.http_framing.proofs.parts.comma_at.Given as goal

abbrev pub invariant-loop-at : goal.invariant-loop-at
invariant-loop-at l = record {
  within : l.at ≤ length l.bytes;
  parts : comma_parts l.bytes ≡ joined (take l.at l.bytes) (comma_parts (drop l.at l.bytes));
}

abbrev pub decreases-loop-at : goal.decreases-loop-at
decreases-loop-at l = length l.bytes - l.at
