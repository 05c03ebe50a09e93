use Rattle.std.proofs.Common.{◌≡◌, drop}
use Rattle.store_model.specs.Change.{set_values}
use Rattle.row_change.proofs.updates.set_values.Given as goal

abbrev pub invariant-loop-attribute : goal.invariant-loop-attribute
invariant-loop-attribute l = set_values l.new.items (drop l.attribute-index l.values) ≡ set_values l.fn.old l.fn.values
