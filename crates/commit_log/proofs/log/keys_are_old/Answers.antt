use Rattle.std.proofs.Common.{◌<◌, subst}
use Rattle.commit_log.proofs.Loops.{key_late}
use Rattle.commit_log.proofs.log.keys_are_old.Goals as goal

pub returns-then-last-since : goal.returns-then-last-since
returns-then-last-since c = (
  λ e. cc e,
  λ old. absurd (key_late c.args.last.now c.args.since c.args.keys.now c.loop-key.key-index c.key-item.result c.loop-key-test.true c.key-item.is
      (subst (λ n. c.args.since < n) c.last.ensures.value c.if-last-since.true) old),
)
