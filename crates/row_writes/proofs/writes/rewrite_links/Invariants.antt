use Rattle.trial_steps.specs.Steps.{LeavesReads}
use Rattle.row_writes.specs.WritesBacks.{RewritesLinks}
use Rattle.row_writes.proofs.writes.rewrite_links.Given as goal

-- the links so far
abbrev pub invariant-loop-rel : goal.invariant-loop-rel
invariant-loop-rel g l = record {
  leaves : LeavesReads l.fn.recorder l.recorder;
  links : RewritesLinks l.schema l.key l.old l.new l.rel l.fn.recorder.writes l.recorder.writes;
}
