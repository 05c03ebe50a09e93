use Rattle.std.proofs.Common.{refl, ap}
use Rattle.ordered_pages.specs.Tree.{map_of}
use Rattle.commit_core.specs.Standing.{meaning_in}
use Rattle.core_steps.proofs.Moves.{snaps_now, fails}
use Rattle.core_steps.proofs.steppers.snap.Goals as goal

pub returns-in-Ok-clause-steps : goal.returns-in-Ok-clause-steps
returns-in-Ok-clause-steps g c first w h st ready =
    snaps_now (meaning_in g.S.Answers.kind g.S.Means.meaning c.args.core.now) _ first w h c.args.by _ _ _ _ c.args.attempt c.in-Ok.snapshot st c.requires.few c.requires.last c.in-Ok.ensures.at (λ k. ap (λ p. map_of p k) c.in-Ok.ensures.pages) st

pub returns-in-Err-clause-steps : goal.returns-in-Err-clause-steps
returns-in-Err-clause-steps g c first w h st ready = fails _ _ first w h c.args.by _ _ refl st
