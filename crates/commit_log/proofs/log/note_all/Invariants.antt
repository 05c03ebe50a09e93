use Rattle.std.proofs.Common.{◌≡◌, drop}
use Rattle.commit_log.specs.Writers.{with_notes}
use Rattle.commit_log.proofs.log.note_all.Given as goal

abbrev pub invariant-loop-key : goal.invariant-loop-key
invariant-loop-key l = with_notes l.initial.last l.keys l.number ≡ with_notes l.last (drop l.key-index l.keys) l.number
