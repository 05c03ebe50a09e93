use Rattle.replay_runs.proofs.Events.{passed}
use Rattle.replay_runs.proofs.streams.Stream.step.Goals as goal

pub returns-in-Some-clause-steps : goal.returns-in-Some-clause-steps
returns-in-Some-clause-steps g c = λ bytes w h st served ready fit.
    passed _ _ _ w bytes c.args.by h 0 _ c.args.self.now c.in-Some.field-0 c.in-Some.is st served ready fit
