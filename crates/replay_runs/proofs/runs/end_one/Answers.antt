use Rattle.std.proofs.Common.{◌≡◌, ◌≢◌, ℕ, List, [], ◌∷◌, ◌++◌, length, replicate, refl, sym, ap, subst, ◌∙◌, append-nil, suc, Some, arith, ◌<◌}
use Rattle.std.specs.Prelude.{slice_get, IsSome}
use Rattle.std.proofs.lemmas.Option.{slice_get_read}
use Rattle.session_engine.specs.Plans.{plans_of}
use Rattle.replay_runs.specs.Running.{RunsOver, left_at}
use Rattle.replay_runs.proofs.Taking.{can_go, turn_more, none_is, some_same}
use Rattle.replay_runs.proofs.runs.end_one.Goals as goal

pub ending-init : goal.ending-init
ending-init g c = record {
  subject = refl;
  window = refl;
  size = refl;
  others = λ j not. refl;
  some = c.requires.runs;
  all = λ w inputs steps sizes r.
      (0, subst (λ l. RunsOver g.S.Answers.kind g.S.Means.meaning (plans_of (g.P.Planner.planned c.args.planner.now)) c.args.core.now w inputs l c.args.streams.now.items c.args.history.now.items) (sym (append-nil steps)) r);
}

pub step_at-requires-clause-may : goal.step_at-requires-clause-may
step_at-requires-clause-may g c = λ s got.
    let some = c.ending.invariant.some in
    can_go g.S.Answers.kind g.S.Means.meaning (plans_of (g.P.Planner.planned c.args.planner.now)) some.0 some.1 c.ending.core some.2 c.ending.streams.items c.ending.history.items c.args.k s some.3 some.4 got

pub ending-preserved : goal.ending-preserved
ending-preserved g c =
    let inv = c.ending.invariant in
    let some = inv.some in
    let step = c.in_ok-step_at.ensures in
    record {
      subject = c.step_at.ensures.subject ∙ inv.subject;
      window = c.step_at.ensures.window ∙ inv.window;
      size = c.step_at.ensures.size ∙ inv.size;
      others = λ j not. step.others j not ∙ inv.others j not;
      some = (some.0, some.1, some.2 ++ c.args.k ∷ [], some.3 ∙ sym c.step_at.ensures.size, step.steps some.0 some.1 some.2 some.3 some.4);
      all = λ w inputs steps sizes r.
          let a = inv.all w inputs steps sizes r in (
            suc a.0,
            subst (λ l. RunsOver g.S.Answers.kind g.S.Means.meaning (plans_of (g.P.Planner.planned c.args.planner.now)) c.step_at.new.core w inputs l c.step_at.new.streams.items c.step_at.new.history.items) (turn_more steps a.0 c.args.k)
                (step.steps w inputs (steps ++ replicate a.0 c.args.k) (sizes ∙ sym inv.size) a.1),
          );
    }

pub ending-smaller : goal.ending-smaller
ending-smaller g c =
    let x = c.index.result.now in
    let inside : c.args.k < length c.ending.streams.items = omega (arith, c.requires.within, c.ending.invariant.size) in
    c.in_ok-step_at.ensures.falls x (slice_get_read c.ending.streams.items _ c.args.k x refl inside c.index.ensures) (none_is x.end c.ending-test.ensures)

pub returns-clause-ended : goal.returns-clause-ended
returns-clause-ended g c = λ s got.
    let x = c.index.result.now in
    let inside : c.args.k < length c.ending.streams.items = omega (arith, c.requires.within, c.ending.invariant.size) in
    let is = slice_get_read c.ending.streams.items _ c.args.k x refl inside c.index.ensures in
    subst (λ y. IsSome y.end) (some_same x s (sym is ∙ got)) c.ending-test.ensures
