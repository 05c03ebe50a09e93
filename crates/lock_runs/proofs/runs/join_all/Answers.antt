use Rattle.lock_runs.proofs.Popped.{last_of, of_lock, covers_more}
use Rattle.lock_runs.proofs.runs.join_all.Goals as goal

pub count_some-own-requires : goal.count_some-own-requires
count_some-own-requires g c =
    let covers = c.joining.invariant.1 in
    let last = last_of c.args.lock.now _ _ c.joining.whole c.in-Some.pass c.pop.result covers c.pop.ensures.items c.in-Some.is in
    record { of_lock = of_lock c.args.lock.now c.in-Some.pass _ covers.first_is last.1 }

pub joining-preserved : goal.joining-preserved
joining-preserved g c =
    let joined = c.joined-whole.ensures in
    (joined.of_lock, covers_more c.args.lock.now _ _ c.joining.whole c.in-Some.pass c.count_some-own.result c.joined-whole.result c.pop.result c.joining.invariant.1 c.pop.ensures.items c.in-Some.is c.count_some-own.ensures.numbers joined.whole joined.pass)
