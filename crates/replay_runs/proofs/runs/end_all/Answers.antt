use Rattle.std.proofs.Common.{◌≡◌, ◌≢◌, ◌<◌, ◌≤◌, ◌+◌, ◌⊎◌, ℕ, List, [], ◌∷◌, ◌++◌, length, replicate, refl, sym, ap, subst, ◌∙◌, append-nil, arith, Some, inl, inr, length-append}
use Rattle.std.specs.Prelude.{slice_get, IsSome}
use Rattle.std.proofs.lemmas.Option.{slice_get_within}
use Rattle.session_engine.specs.Plans.{plans_of}
use Rattle.replay_runs.specs.declared.streams.Stream.{Stream}
use Rattle.replay_runs.specs.Running.{RunsOver, in_turn}
use Rattle.replay_runs.proofs.Taking.{turns_more, ended_more}
use Rattle.replay_runs.proofs.runs.end_all.Goals as goal

no_less : (j : ℕ) → j < 0 → ⊥
no_less j h = omega arith

one_longer : (n k : ℕ) (counts : List ℕ) → length counts ≡ k → length (counts ++ n ∷ []) ≡ k + 1
one_longer n k counts is = length-append counts (n ∷ []) ∙ ap (λ i. i + 1) is

at_end : (k count : ℕ) → k ≤ count → count ≤ k → k ≡ count
at_end k count low high = omega arith

pub finishing-init : goal.finishing-init
finishing-init g c = record {
  subject = refl;
  window = refl;
  size = refl;
  ended = λ j s less got. absurd (no_less j less);
  some = c.requires.runs;
  all = λ w inputs steps sizes r.
      ([], refl, subst (λ l. RunsOver g.S.Answers.kind g.S.Means.meaning (plans_of (g.P.Planner.planned c.args.planner.now)) c.args.core.now w inputs l c.args.streams.now.items c.args.history.now.items) (sym (append-nil steps)) r);
}

pub finishing-preserved : goal.finishing-preserved
finishing-preserved g c =
    let inv = c.finishing.invariant in
    let some = inv.some in
    let one = c.in_ok-end_one.ensures in
    let k = c.finishing.k in
    let later = one.steps some.0 some.1 some.2 some.3 some.4 in
    record {
      subject = c.end_one.ensures.subject ∙ inv.subject;
      window = c.end_one.ensures.window ∙ inv.window;
      size = c.end_one.ensures.size ∙ inv.size;
      ended = λ j s less got. ended_more c.finishing.streams.items c.end_one.new.streams.items k j s less got one.others one.ended inv.ended;
      some = (some.0, some.1, some.2 ++ replicate later.0 k, some.3 ∙ sym c.end_one.ensures.size, later.1);
      all = λ w inputs steps sizes r.
          let a = inv.all w inputs steps sizes r in
          let b = one.steps w inputs (steps ++ in_turn 0 a.0) (sizes ∙ sym inv.size) a.2 in (
            a.0 ++ b.0 ∷ [],
            one_longer b.0 k a.0 a.1,
            subst (λ l. RunsOver g.S.Answers.kind g.S.Means.meaning (plans_of (g.P.Planner.planned c.args.planner.now)) c.end_one.new.core w inputs l c.end_one.new.streams.items c.end_one.new.history.items)
                (turns_more steps b.0 k a.0 (sym a.1)) b.1,
          );
    }

pub returns-clause-steps : goal.returns-clause-steps
returns-clause-steps g c = λ w inputs steps sizes r.
    let a = c.finishing.invariant.all w inputs steps sizes r in (a.0, a.1 ∙ at_end c.finishing.k c.args.count c.finishing.auto.k-end c.finishing-test.false, a.2)

pub returns-clause-ended : goal.returns-clause-ended
returns-clause-ended g c = λ j s got.
    let inside : j < c.finishing.k = let h = slice_get_within c.finishing.streams.items j s got in omega (arith, h, c.finishing.invariant.size, c.requires.count, c.finishing-test.false) in
    c.finishing.invariant.ended j s inside got
