use Rattle.std.proofs.Common.{◌≡◌, ◌≢◌, ℕ, ◌+◌, ◌<◌, List, [], ◌∷◌, ◌++◌, get_or, length, refl, sym, ap, subst, ◌∙◌, Some, None, true, false, append-nil, arith}
use Rattle.std.specs.Prelude.{slice_get}
use Rattle.std.proofs.lemmas.Option.{slice_get-get_or, slice_get_read}
use Rattle.session_engine.specs.Plans.{plans_of}
use Rattle.run_model.specs.Runs.{history_of}
use Rattle.replay_runs.specs.Streams.{if_joined}
use Rattle.replay_runs.proofs.Taking.{GrowLaws, running_step, left_falls, set_others, over_new}
use Rattle.replay_runs.proofs.runs.step_at.Goals as goal

pub returns-then-joined-clause-steps : goal.returns-then-joined-clause-steps
returns-then-joined-clause-steps g c = λ w inputs steps sizes r.
    let k = c.args.k in
    let m = g.S.Means.meaning (g.S.Answers.kind c.args.core.now.subject) in
    let plans = plans_of (g.P.Planner.planned c.args.planner.now) in
    let laws : GrowLaws m = record {
      history = c.events_grow.ensures.history;
      stage = c.events_grow.ensures.stage;
      stages = c.events_grow.ensures.stages;
      refused = c.events_grow.ensures.refused;
      refusals = c.events_grow.ensures.refusals;
      entries = c.entries_grow.ensures.others;
      runs = c.runs_grow.ensures (g.S.Answers.kind c.args.core.now.subject);
    } in
    let bytes = get_or inputs k [] in
    let inside : k < length inputs = omega (arith, sizes, c.requires.within) in
    let input = slice_get-get_or inputs k [] inside in
    let is : slice_get c.args.streams.now.items k ≡ Some c.index_mut.result.now = slice_get_read c.args.streams.now.items _ k c.index_mut.result.now refl c.requires.within c.index_mut.ensures.value in
    let mine = r.each k bytes c.index_mut.result.now input is in
    let o = c.in_ok-joined.ensures.steps bytes w (history_of r.events) r.stood mine.served mine.ready mine.fit in
    over_new g.S.Answers.kind g.S.Means.meaning plans w inputs c.args.core.now c.step.new.core (steps ++ k ∷ []) _ _ _ c.step.ensures.subject c.step.ensures.window
    (running_step m laws plans c.args.core.now.tally.log.window w inputs steps c.args.streams.now.items c.args.history.now.items _ _ k bytes c.index_mut.result.now c.step.new.self c.in_ok-joined.joined _ r input is
    (c.in_ok-push.ensures.items ∙ ap (λ b. c.args.history.now.items ++ if_joined b k) (sym c.if-joined.true)) o)

pub returns-clause-falls : goal.returns-clause-falls
returns-clause-falls g c = λ s got none.
    left_falls c.args.streams.now.items c.args.k c.index_mut.result.now s c.step.new.self c.requires.within
    (slice_get_read c.args.streams.now.items _ c.args.k c.index_mut.result.now refl c.requires.within c.index_mut.ensures.value) got none c.in_ok-joined.ensures.falls

pub returns-then-joined-clause-falls : goal.returns-then-joined-clause-falls
returns-then-joined-clause-falls g c = λ s got none.
    left_falls c.args.streams.now.items c.args.k c.index_mut.result.now s c.step.new.self c.requires.within
    (slice_get_read c.args.streams.now.items _ c.args.k c.index_mut.result.now refl c.requires.within c.index_mut.ensures.value) got none c.in_ok-joined.ensures.falls

pub returns-clause-others : goal.returns-clause-others
returns-clause-others g c = λ j not. set_others c.args.streams.now.items c.args.k j c.step.new.self not

pub returns-then-joined-clause-others : goal.returns-then-joined-clause-others
returns-then-joined-clause-others g c = λ j not. set_others c.args.streams.now.items c.args.k j c.step.new.self not

pub returns-clause-steps : goal.returns-clause-steps
returns-clause-steps g c = λ w inputs steps sizes r.
    let k = c.args.k in
    let m = g.S.Means.meaning (g.S.Answers.kind c.args.core.now.subject) in
    let plans = plans_of (g.P.Planner.planned c.args.planner.now) in
    let laws : GrowLaws m = record {
      history = c.events_grow.ensures.history;
      stage = c.events_grow.ensures.stage;
      stages = c.events_grow.ensures.stages;
      refused = c.events_grow.ensures.refused;
      refusals = c.events_grow.ensures.refusals;
      entries = c.entries_grow.ensures.others;
      runs = c.runs_grow.ensures (g.S.Answers.kind c.args.core.now.subject);
    } in
    let bytes = get_or inputs k [] in
    let inside : k < length inputs = omega (arith, sizes, c.requires.within) in
    let input = slice_get-get_or inputs k [] inside in
    let is : slice_get c.args.streams.now.items k ≡ Some c.index_mut.result.now = slice_get_read c.args.streams.now.items _ k c.index_mut.result.now refl c.requires.within c.index_mut.ensures.value in
    let mine = r.each k bytes c.index_mut.result.now input is in
    let o = c.in_ok-joined.ensures.steps bytes w (history_of r.events) r.stood mine.served mine.ready mine.fit in
    over_new g.S.Answers.kind g.S.Means.meaning plans w inputs c.args.core.now c.step.new.core (steps ++ k ∷ []) _ _ _ c.step.ensures.subject c.step.ensures.window
    (running_step m laws plans c.args.core.now.tally.log.window w inputs steps c.args.streams.now.items c.args.history.now.items _ _ k bytes c.index_mut.result.now c.step.new.self c.in_ok-joined.joined _ r input is
    (sym (append-nil c.args.history.now.items) ∙ ap (λ b. c.args.history.now.items ++ if_joined b k) (sym c.if-joined.false)) o)
