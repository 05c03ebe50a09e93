use Rattle.std.proofs.Common.{◌≡◌, take}
use Rattle.compound_document.specs.Gathering.{keys_in}
use Rattle.compound_document.proofs.gathering.keys_of.Given as goal

abbrev pub invariant-loop-row : goal.invariant-loop-row
invariant-loop-row l = l.keys.items ≡ keys_in (take l.row-index l.rows)
