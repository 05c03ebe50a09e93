use Rattle.std.proofs.Common.{sym, ap, subst, ◌∙◌, arith}
use Rattle.commit_core.specs.Standing.{StandsFor}
use Rattle.local_desk.specs.Alone.{StandsForSome}
use Rattle.local_desk.proofs.Driving.{joined_all, number_low}
use Rattle.local_desk.proofs.alone.answer_alone.Goals as goal

pub returns-in-Done-clause-joins : goal.returns-in-Done-clause-joins
returns-in-Done-clause-joins g c = λ first w h st.
    let kind = g.S.Answers.kind in
    let meaning = g.S.Means.meaning in
    let st' = subst (λ x. StandsFor kind meaning x first w h) (sym c.trying.invariant.same) st in
    joined_all kind meaning c.trying.core c.in-Ok.trial c.commit.new.self c.args.by c.trying.attempt c.in-Done.entry c.commit.ensures.subject c.in-Ok.ensures.at c.in-Ok.ensures.tried c.in-Done.ensures.leaves first w h st'

pub trying-preserved : goal.trying-preserved
trying-preserved g c =
    let inv = c.trying.invariant in
    let kind = g.S.Answers.kind in
    let meaning = g.S.Means.meaning in
    let some = subst (StandsForSome kind meaning) (sym inv.same) c.requires.stands in
    let low = number_low kind meaning c.trying.core c.in-Ok.trial c.in-Stale.again c.in-Stale._why some c.in-Stale.ensures.says in
    let back = c.in-Stale.ensures.back in
    let test = c.trying-test.true in
    let is = c.refused.ensures in
    record {
      same = c.in-Stale.ensures.kept ∙ inv.same;
      task = ap (λ x. x.task) back ∙ inv.task;
      refused = let more = ap (λ x. x.refused) back in omega (arith, more, test, is);
      last = let number = ap (λ x. x.last) back in let count = ap (λ x. x.tally.count) inv.same in omega (arith, number, low, count);
    }
