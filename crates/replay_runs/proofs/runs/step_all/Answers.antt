use Rattle.std.proofs.Common.{◌≡◌, ℕ, ◌+◌, ◌≤◌, List, [], ◌∷◌, ◌++◌, get_or, length, take, refl, sym, ap, subst, ◌∙◌, append-nil, append_assoc}
use Rattle.std.proofs.lemmas.List.{take_more}
use Rattle.std.proofs.lemmas.Grind.{common_steps}
use Rattle.std.proofs.Common.{arith}
use Rattle.session_engine.specs.Plans.{plans_of}
use Rattle.replay_runs.specs.Running.{RunsOver}
use Rattle.replay_runs.proofs.Taking.{can_go}
use Rattle.replay_runs.proofs.runs.step_all.Goals as goal

take_all : (n : ℕ) (xs : List ℕ) → length xs ≤ n → take n xs ≡ xs
take_all n xs enough = grind (arith, common_steps)

pub stepping-init : goal.stepping-init
stepping-init g c = record {
  subject = refl;
  window = refl;
  size = refl;
  some = c.requires.runs;
  all = λ w inputs before sizes r.
      subst (λ l. RunsOver g.S.Answers.kind g.S.Means.meaning (plans_of (g.P.Planner.planned c.args.planner.now)) c.args.core.now w inputs l c.args.streams.now.items c.args.history.now.items) (sym (append-nil before)) r;
}

pub step_at-requires-clause-may : goal.step_at-requires-clause-may
step_at-requires-clause-may g c = λ s got.
    let some = c.stepping.invariant.some in
    can_go g.S.Answers.kind g.S.Means.meaning (plans_of (g.P.Planner.planned c.args.planner.now)) some.0 some.1 c.stepping.core some.2 c.stepping.streams.items c.stepping.history.items (get_or c.args.steps.now c.stepping.step-index 0) s some.3 some.4 got

pub stepping-preserved : goal.stepping-preserved
stepping-preserved g c =
    let inv = c.stepping.invariant in
    let some = inv.some in
    let step = c.in_ok-step_at.ensures in
    let k = get_or c.args.steps.now c.stepping.step-index 0 in
    record {
      subject = c.step_at.ensures.subject ∙ inv.subject;
      window = c.step_at.ensures.window ∙ inv.window;
      size = c.step_at.ensures.size ∙ inv.size;
      some = (some.0, some.1, some.2 ++ k ∷ [], some.3 ∙ sym c.step_at.ensures.size, step.steps some.0 some.1 some.2 some.3 some.4);
      all = λ w inputs before sizes r.
          subst (λ l. RunsOver g.S.Answers.kind g.S.Means.meaning (plans_of (g.P.Planner.planned c.args.planner.now)) c.step_at.new.core w inputs l c.step_at.new.streams.items c.step_at.new.history.items)
          (append_assoc before (take c.stepping.step-index c.args.steps.now) (k ∷ []) ∙ ap (λ l. before ++ l) (sym (take_more c.args.steps.now c.stepping.step-index 0 c.stepping-test.true)))
          (step.steps w inputs (before ++ take c.stepping.step-index c.args.steps.now) (sizes ∙ sym inv.size) (inv.all w inputs before sizes r));
    }

pub returns-clause-steps : goal.returns-clause-steps
returns-clause-steps g c = λ w inputs before sizes r.
    subst (λ l. RunsOver g.S.Answers.kind g.S.Means.meaning (plans_of (g.P.Planner.planned c.args.planner.now)) c.stepping.core w inputs (before ++ l) c.stepping.streams.items c.stepping.history.items)
    (take_all c.stepping.step-index c.args.steps.now c.stepping-test.false) (c.stepping.invariant.all w inputs before sizes r)
