use Rattle.std.proofs.Common.{[], ◌∷◌, ◌++◌, inl, refl, sym, ap, subst}
use Rattle.commit_core.specs.Standing.{StandsFor, meaning_in}
use Rattle.core_steps.proofs.Moves.{joins_now, refused_now, fails, next_is, under_kind}
use Rattle.core_steps.proofs.steppers.offer.Goals as goal

pub returns-in-Done-clause-steps : goal.returns-in-Done-clause-steps
returns-in-Done-clause-steps g c first w h st ready =
    let kind = g.S.Answers.kind in
    let meaning = g.S.Means.meaning in
    let m = meaning_in kind meaning c.args.core.now in
    let leaves = c.in-Done.ensures.leaves in
    let stood = leaves.1 first w h st ready.2 in
    joins_now m _ first w h c.args.by _ _ c.in-Done.entry
    (next_is m (c.last_is_answered.ensures (kind c.args.core.now.subject)) w h c.in-Done.entry c.args.by c.args.attempt.task stood.legal.answers (ap (λ e. e.by) leaves.0) (ap (λ e. e.task) leaves.0), inl refl)
    (under_kind kind meaning c.args.core.now.subject c.commit.new.self first w (h ++ c.in-Done.entry ∷ []) c.commit.ensures.subject stood)

pub returns-in-Stale-clause-steps : goal.returns-in-Stale-clause-steps
returns-in-Stale-clause-steps g c first w h st ready =
    let kind = g.S.Answers.kind in
    let meaning = g.S.Means.meaning in
    refused_now (meaning_in kind meaning c.args.core.now) _ first w h c.args.by _ c.args.attempt c.in-Stale.attempt c.args.trial c.in-Stale.why ready c.in-Stale.ensures.back (c.in-Stale.ensures.says first w h st)
    (subst (λ core. StandsFor kind meaning core first w h) (sym c.in-Stale.ensures.kept) st)

pub returns-in-NoMemory-clause-steps : goal.returns-in-NoMemory-clause-steps
returns-in-NoMemory-clause-steps g c first w h st ready =
    fails _ _ first w h c.args.by _ _ refl (subst (λ core. StandsFor g.S.Answers.kind g.S.Means.meaning core first w h) (sym c.in-NoMemory.ensures.kept) st)

pub returns-clause-steps : goal.returns-clause-steps
returns-clause-steps g c first w h st ready = (subst (λ core. StandsFor g.S.Answers.kind g.S.Means.meaning core first w h) (sym c.in-Worn.ensures.kept) st, refl)
