use Rattle.std.proofs.Common.{refl}
use Rattle.lock_runs.proofs.Popped.{covers_first}
use Rattle.lock_runs.proofs.runs.count_of_run.Goals as goal

pub count_some-first-requires : goal.count_some-first-requires
count_some-first-requires g c = record { of_lock = (covers_first 0 c.args.passes c.in_ok-lock.lock _ _ c.in-Some.last c.in-Some.last c.pop.result c.in_ok-lock.ensures refl c.pop.ensures.items c.in-Some.is refl).0 }

pub join_all-whole-requires-clause-made : goal.join_all-whole-requires-clause-made
join_all-whole-requires-clause-made g c =
    (covers_first 0 c.args.passes c.in_ok-lock.lock _ _ c.in-Some.last c.count_some-first.result c.pop.result c.in_ok-lock.ensures refl c.pop.ensures.items c.in-Some.is c.count_some-first.ensures.numbers).1
