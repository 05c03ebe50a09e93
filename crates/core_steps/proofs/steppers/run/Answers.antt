use Rattle.std.proofs.Common.{refl, subst}
use Rattle.ordered_pages.specs.Tree.{map_of}
use Rattle.history_model.specs.Trials.{IsTried, StaysInReach}
use Rattle.commit_core.specs.Standing.{meaning_in}
use Rattle.core_steps.proofs.Moves.{tries_now, fails}
use Rattle.core_steps.proofs.steppers.run.Goals as goal

pub returns-in-Ok-clause-steps : goal.returns-in-Ok-clause-steps
returns-in-Ok-clause-steps g c first w h st ready =
    let kind = g.S.Answers.kind in
    let meaning = g.S.Means.meaning in
    let t = c.in-Ok.trial in
    let tried = subst (λ s. IsTried (meaning (kind s)) (map_of c.args.snapshot.pages) c.args.attempt.task t.reads t.writes t.reply) c.subject.ensures c.in-Ok.ensures.tried in
    let reach = subst (λ s. StaysInReach (meaning (kind s)) (map_of c.args.snapshot.pages) c.args.attempt.task t.reads) c.subject.ensures c.in-Ok.ensures.reach in
    tries_now (meaning_in kind meaning c.args.core.now) _ first w h c.args.by _ _ _ _ c.args.attempt c.args.snapshot t (g.S.Means.lawful (kind c.args.core.now.subject)) st ready c.in-Ok.ensures.at tried reach st

pub returns-in-Err-clause-steps : goal.returns-in-Err-clause-steps
returns-in-Err-clause-steps g c first w h st ready = fails _ _ first w h c.args.by _ _ refl st
