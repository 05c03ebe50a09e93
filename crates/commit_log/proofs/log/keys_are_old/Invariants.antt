use Rattle.std.proofs.Common.{drop}
use Rattle.commit_log.specs.Writers.{KeysAreOld}
use Rattle.commit_log.proofs.log.keys_are_old.Given as goal

abbrev pub invariant-loop-key : goal.invariant-loop-key
invariant-loop-key l = KeysAreOld l.last (drop l.key-index l.keys) l.since → KeysAreOld l.last l.keys l.since
