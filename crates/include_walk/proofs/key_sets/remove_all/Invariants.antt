use Rattle.std.proofs.Common.{take}
use Rattle.include_walk.specs.Sets.{Takes}
use Rattle.include_walk.proofs.key_sets.remove_all.Given as goal

abbrev pub invariant-loop-key : goal.invariant-loop-key
invariant-loop-key l = Takes l.initial.set.keys (take l.key-index l.keys) l.set.keys
