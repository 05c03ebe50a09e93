use Rattle.std.proofs.Common.{subst}
use Rattle.history_model.specs.Histories.{IsAbove}
use Rattle.history_model.specs.Standing.{NoneMeets}
use Rattle.commit_log.proofs.Doubts.{none_above, nothing_above, old_meets_none}
use Rattle.commit_log.proofs.log.CommitLog.first_conflict.Goals.{in-Some+else-dropped-since, in_default}
use Rattle.commit_log.proofs.log.CommitLog.first_conflict.Goals as goal

pub returns-then-are_old-clause-says : goal.returns-then-are_old-clause-says
returns-then-are_old-clause-says c =
    let old = c.are_old.ensures.0 c.if-are_old.true in
    let young : ¬ IsAbove c.args.since c.self.inside.dropped = elim c.match-self.branch [
      | in-Some+else-dropped-since w ↦ none_above c.args.since w.in-Some.dropped c.self.inside.dropped w.in-Some.is w.if-dropped-since.false
      | in_default w ↦ nothing_above c.args.since c.self.inside.dropped w.in_default.is
    ] in (
      subst (λ s. ¬ IsAbove c.args.since s.log.dropped) c.self.view_is young,
      subst (λ s. NoneMeets c.args.reads.now c.args.since s.log.kept) c.self.view_is (old_meets_none c.self.inside.last c.args.reads.now c.args.since _ old c.self.invariant.told),
    )
