use Rattle.std.proofs.Common.{drop}
use Rattle.commit_log.specs.Writers.{PartsAreOld}
use Rattle.commit_log.proofs.log.parts_are_old.Given as goal

abbrev pub invariant-loop-part : goal.invariant-loop-part
invariant-loop-part l = PartsAreOld l.last (drop l.part-index l.parts) l.since → PartsAreOld l.last l.parts l.since
