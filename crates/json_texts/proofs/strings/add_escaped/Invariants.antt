use Rattle.std.proofs.Common.{◌≤◌, ◌-◌, length, drop}
use Rattle.json.specs.Print.{escape}
use Rattle.json_texts.specs.Drafts.{Leaves}
use Rattle.json_texts.proofs.strings.add_escaped.Given as goal

abbrev pub invariant-loop-at : goal.invariant-loop-at
invariant-loop-at l = record {
  within : l.at ≤ length l.text;
  leaves : Leaves l.fn.draft l.draft (escape (drop l.at l.text)) (escape l.text);
}

abbrev pub decreases-loop-at : goal.decreases-loop-at
decreases-loop-at l = length l.text - l.at
