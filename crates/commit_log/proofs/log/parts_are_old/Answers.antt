use Rattle.std.proofs.Common.{◌<◌, subst}
use Rattle.commit_log.proofs.Loops.{part_late}
use Rattle.commit_log.proofs.log.parts_are_old.Goals as goal

pub returns-then-last_in-since : goal.returns-then-last_in-since
returns-then-last_in-since c = (
  λ e. cc e,
  λ old. absurd (part_late c.args.last.now c.args.since c.args.parts.now c.loop-part.part-index c.part-item.result c.loop-part-test.true c.part-item.is
      (subst (λ n. c.args.since < n) c.last_in.ensures.value c.if-last_in-since.true) old),
)
