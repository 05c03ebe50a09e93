use Rattle.std.proofs.Common.{◌≡◌, take}
use Rattle.compound_document.specs.Linked.{of_kind}
use Rattle.compound_document.proofs.linked.keys_with.Given as goal

abbrev pub invariant-loop-id : goal.invariant-loop-id
invariant-loop-id l = l.keys.items ≡ of_kind l.kind (take l.id-index l.ids)
