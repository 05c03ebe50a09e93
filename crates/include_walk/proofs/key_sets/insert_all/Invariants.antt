use Rattle.std.proofs.Common.{take}
use Rattle.include_walk.specs.Sets.{Adds}
use Rattle.include_walk.proofs.key_sets.insert_all.Given as goal

abbrev pub invariant-loop-key : goal.invariant-loop-key
invariant-loop-key l = Adds l.initial.set.keys (take l.key-index l.keys) l.set.keys
