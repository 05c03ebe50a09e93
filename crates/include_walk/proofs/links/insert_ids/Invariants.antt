use Rattle.std.proofs.Common.{take}
use Rattle.include_walk.specs.Sets.{Adds, of_kind}
use Rattle.include_walk.proofs.links.insert_ids.Given as goal

abbrev pub invariant-loop-id : goal.invariant-loop-id
invariant-loop-id l = Adds l.initial.keys.keys (of_kind l.kind (take l.id-index l.ids)) l.keys.keys
