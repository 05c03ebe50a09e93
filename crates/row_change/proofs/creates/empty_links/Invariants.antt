use Rattle.std.proofs.Common.{◌≡◌, take}
use Rattle.resource_schema.specs.Kinds.{relationships_of}
use Rattle.store_model.specs.Change.{empty_links}
use Rattle.row_change.proofs.creates.empty_links.Given as goal

abbrev pub invariant-loop-relationship : goal.invariant-loop-relationship
invariant-loop-relationship l = l.links.items ≡ empty_links (take l.relationship-index (relationships_of l.schema l.kind))
