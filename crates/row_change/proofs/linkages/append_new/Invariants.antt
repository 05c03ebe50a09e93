use Rattle.std.proofs.Common.{◌≡◌, drop}
use Rattle.store_model.specs.Change.{append_new}
use Rattle.row_change.proofs.linkages.append_new.Given as goal

abbrev pub invariant-loop-id : goal.invariant-loop-id
invariant-loop-id l = append_new l.ids.items (drop l.id-index l.more) ≡ append_new l.old l.more
