use Rattle.std.proofs.Common.{ℕ, ◌+◌, ◌≤◌, None, length, sym, subst, arith, lit≤}
use Rattle.run_model.specs.Laws.{own_entries}
use Rattle.session_engine.specs.Plans.{plans_of}
use Rattle.session_engine.specs.Seen.{FitNext}
use Rattle.core_steps.specs.Stepping.{IsFitIn, task_in}
use Rattle.core_steps.specs.Steps.{IsReady}
use Rattle.replay_runs.specs.Lines.{ReadsOn}
use Rattle.replay_runs.specs.Streams.{IsServedSo}
use Rattle.replay_runs.proofs.Events.{began, ended_now}
use Rattle.replay_runs.proofs.streams.start.Goals as goal

zero_le : (n : ℕ) → 0 ≤ n
zero_le n = omega arith

pub returns-in-Ended-clause-steps : goal.returns-in-Ended-clause-steps
returns-in-Ended-clause-steps g c = λ bytes w h st rests ready fit.
    let plans = plans_of (g.P.Planner.planned c.args.planner.now) in
    let over = subst (λ r. ReadsOn plans bytes (own_entries c.args.by h) c.read.new.self r) c.in-Ended.is (c.in_ok-end.ensures.reads bytes (own_entries c.args.by h) rests) in
    ended_now _ plans _ w bytes c.args.by h _ _ c.read.new.self c.in-Ended.end c.args.stream.now.stepper c.requires.rests st over

pub returns-in_ok-joined-in-Task-clause-steps : goal.returns-in_ok-joined-in-Task-clause-steps
returns-in_ok-joined-in-Task-clause-steps g c = λ bytes w h st rests ready fit.
    let plans = plans_of (g.P.Planner.planned c.args.planner.now) in
    let m = g.S.Means.meaning (g.S.Answers.kind c.args.core.now.subject) in
    let at = subst (λ r. ReadsOn plans bytes (own_entries c.args.by h) c.read.new.self r) c.in-Task.is (c.in_ok-end.ensures.reads bytes (own_entries c.args.by h) rests) in
    let fits = c.requires.fit c.in-Task.task (subst (λ r. FitNext (g.P.Planner.fit c.args.planner.now) r) c.in-Task.is c.in_ok-end.ensures.fit) in
    let served = subst (λ s. IsServedSo plans bytes (own_entries c.args.by h) None (task_in s) c.read.new.self) (sym c.give.ensures) at in
    let prepared = subst (λ s. IsReady m 0 w h s) (sym c.give.ensures) (lit≤ tt, zero_le (0 + length h)) in
    let fit_in = subst (λ s. IsFitIn m s) (sym c.give.ensures) fits in
    began m plans _ w bytes c.args.by h _ _ c.in-Task.task c.give.new.self _ _ fits c.give.ensures (c.in_ok-joined-in-Task.ensures.steps bytes w h st served prepared fit_in)
