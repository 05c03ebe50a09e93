use Rattle.std.proofs.Common.{[], ◌∷◌, ◌++◌, inl, refl, sym, subst}
use Rattle.task_forms.specs.Meaning.{AreAnswers}
use Rattle.commit_core.specs.Standing.{StandsFor, meaning_in}
use Rattle.core_steps.proofs.Moves.{joins_now, fails, next_is}
use Rattle.core_steps.proofs.steppers.finish.Goals as goal

pub returns-in-Done-clause-steps : goal.returns-in-Done-clause-steps
returns-in-Done-clause-steps g c first w h st ready =
    let kind = g.S.Answers.kind in
    let meaning = g.S.Means.meaning in
    let m = meaning_in kind meaning c.args.core.now in
    let settles = c.in-Done.ensures.settles in
    let stood = settles.2 first w h st in
    let answers = subst (λ s. AreAnswers (meaning (kind s)) w (h ++ c.in-Done.entry ∷ [])) c.settle.ensures.subject stood.legal.answers in
    joins_now m _ first w h c.args.by _ _ c.in-Done.entry
    (c.requires.refused, next_is m (c.last_is_answered.ensures (kind c.args.core.now.subject)) w h c.in-Done.entry c.args.by c.args.attempt.task answers settles.0 settles.1, inl refl) stood

pub returns-in-NoMemory-clause-steps : goal.returns-in-NoMemory-clause-steps
returns-in-NoMemory-clause-steps g c first w h st ready =
    fails _ _ first w h c.args.by _ _ refl (subst (λ core. StandsFor g.S.Answers.kind g.S.Means.meaning core first w h) (sym c.in-NoMemory.ensures.kept) st)

pub returns-clause-steps : goal.returns-clause-steps
returns-clause-steps g c first w h st ready = (subst (λ core. StandsFor g.S.Answers.kind g.S.Means.meaning core first w h) (sym c.in-Worn.ensures.kept) st, refl)
