use Rattle.std.proofs.Common.{refl, sym, subst, None}
use Rattle.run_model.specs.Laws.{own_entries}
use Rattle.session_engine.specs.Plans.{plans_of}
use Rattle.replay_runs.specs.Streams.{IsServedSo}
use Rattle.replay_runs.proofs.Events.{moved, was_refused, done, ran_out, at_task}
use Rattle.replay_runs.proofs.streams.go_on.Goals as goal

pub returns-in-Moved-clause-steps : goal.returns-in-Moved-clause-steps
returns-in-Moved-clause-steps g c = λ bytes w h st served ready fit.
    moved c.entries_grow.ensures.own _ _ _ w bytes c.args.by h c.args.stream.now.stepper _ _ _ _ c.args.stream.now.line c.requires.goes (c.in-Moved.ensures.steps 0 w h st ready) c.in-Moved.ensures.moves.0 fit served

pub returns-in-Some-clause-steps : goal.returns-in-Some-clause-steps
returns-in-Some-clause-steps g c = λ bytes w h st served ready fit.
    was_refused c.entries_grow.ensures.own _ _ _ w bytes c.args.by h c.args.stream.now.stepper _ _ _ _ c.args.stream.now.line c.in-Some.refused c.in-Refused.field-0 c.requires.goes c.in-Some.ensures.1 (c.in-Refused.ensures.steps 0 w h st ready) c.in-Refused.ensures.moves.0 fit served

pub returns-in_ok-stream-in-Done-clause-steps : goal.returns-in_ok-stream-in-Done-clause-steps
returns-in_ok-stream-in-Done-clause-steps g c = λ bytes w h st served ready fit.
    let plans = plans_of (g.P.Planner.planned c.args.planner.now) in
    let e = c.in-Done.entry in
    let moves = c.in-Done.ensures.moves in
    let at = subst (λ t. IsServedSo plans bytes (own_entries c.args.by h) None t c.args.stream.now.line) (sym moves.2) served in
    done c.entries_grow.ensures.own _ plans _ w bytes c.args.by h c.args.stream.now.stepper _ _ _ _ e c.answer.new.self moves.0 (c.in-Done.ensures.steps 0 w h st ready) moves.1
    (c.in_ok-stream-in-Done.ensures.answers plans bytes (own_entries c.args.by h) e.task e at (record { task = refl; reply = refl })) c.in_ok-stream-in-Done.ensures.closes

pub returns-in_ok-run_out-in-NoMemory-clause-steps : goal.returns-in_ok-run_out-in-NoMemory-clause-steps
returns-in_ok-run_out-in-NoMemory-clause-steps g c = λ bytes w h st served ready fit.
    let plans = plans_of (g.P.Planner.planned c.args.planner.now) in
    let at = at_task c.args.core.now.tally.count plans bytes (own_entries c.args.by h) c.args.stream.now.line c.args.stream.now.stepper c.requires.may served in
    ran_out c.entries_grow.ensures.own _ plans _ w bytes c.args.by h c.args.stream.now.stepper _ _ _ c.run_out.new.self c.in-NoMemory.ensures.moves (c.in-NoMemory.ensures.steps 0 w h st ready)
    (c.in_ok-run_out-in-NoMemory.ensures plans bytes (own_entries c.args.by h) at.0 at.1)
