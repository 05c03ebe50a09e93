use Rattle.std.proofs.Common.{refl, sym, ◌∙◌, subst, ap, length, arith}
use Rattle.std.specs.Prelude.{All}
use Rattle.lock_runs.specs.Turns.{IsReady}
use Rattle.lock_runs.proofs.Popped.{made_of_lock, last_ready, pass_ready}
use Rattle.lock_runs.proofs.runs.count_of_threads.Goals as goal

pub take_turns-requires-clause-ready : goal.take_turns-requires-clause-ready
take_turns-requires-clause-ready g c =
    let lock = c.in_ok-lock.lock in
    let ready = c.in_ok-turns.ensures.ready lock (made_of_lock 0 c.args.passes lock _ c.in_ok-lock.ensures refl) in
    let all = subst (All (IsReady lock)) (sym c.deref_mut.ensures.value) ready in
    λ lifetimes outlives k d less. all k d less

pub count_so_far-requires : goal.count_so_far-requires
count_so_far-requires g c =
    let lock = c.in_ok-lock.lock in
    let len = c.take_turns.ensures.len in
    let value = ap length c.deref_mut.ensures.value in
    let ok = c.in_ok-turns.turns.ok in
    let ready = last_ready lock c.in_ok-turns.turns.len c.take_turns.new.turns _ _ c.in-Some.last c.pop.result (λ k d less. c.take_turns.ensures.ready k d less) (omega (arith, len, value, ok)) c.pop.ensures.items c.in-Some.is in
    record { of_lock = pass_ready lock c.in-Some.last c.in-Some-pass_of.pass ready (sym c.pass_of.ensures ∙ c.in-Some-pass_of.is) }
