use Rattle.std.proofs.Common.{◌≡◌, take}
use Rattle.std.specs.Prelude.{not}
use Rattle.std.specs.List.{filter, list_any}
use Rattle.store_model.specs.Valid.{same_id}
use Rattle.row_change.proofs.members.ids_without.Given as goal

abbrev pub invariant-loop-id : goal.invariant-loop-id
invariant-loop-id l = l.left.items ≡ filter (λ x. not (list_any (same_id x) l.removed)) (take l.id-index l.ids)
