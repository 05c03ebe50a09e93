use Rattle.std.proofs.Common.{length, refl, subst, sym}
use Rattle.session_engine.specs.Plans.{plans_of}
use Rattle.serving.specs.Serving.{ServesStore}
use Rattle.serving.specs.Working.{HavePasses}
use Rattle.serving.proofs.Made.{gates_given, listeners_given, made_len, pass_given, serves_from}
use Rattle.serving.proofs.stores.serve_store.Goals as goal

pub give_passes-requires : goal.give_passes-requires
give_passes-requires g c =
    record { len = made_len 0 (length c.args.stations.now) (g.S.Answers.kind c.args.subject) c.in_ok-service.service.lock c.in_ok-service.passes.items c.in_ok-service.ensures.made }

pub serve_given-requires-clause-gates : goal.serve_given-requires-clause-gates
serve_given-requires-clause-gates g c κs within =
    gates_given c.args.stations.now c.give_passes.new.stations c.in_ok-service.passes.items 0 (length c.args.stations.now) (g.S.Answers.kind c.args.subject) c.in_ok-service.service.lock c.in_ok-service.ensures.made c.give_passes.ensures.len refl
    c.give_passes.ensures.given c.requires.gates

pub serve_given-requires-clause-passes : goal.serve_given-requires-clause-passes
serve_given-requires-clause-passes g c κs within =
    let lock = c.in_ok-service.service.lock in
    subst (λ k. HavePasses lock.name lock.start k c.give_passes.new.stations) (sym c.in_ok-service.ensures.kind)
    (pass_given c.args.stations.now c.give_passes.new.stations c.in_ok-service.passes.items 0 (length c.args.stations.now) (g.S.Answers.kind c.args.subject) lock c.in_ok-service.ensures.made c.give_passes.ensures.len refl
    c.give_passes.ensures.given)

pub returns-clause-serves : goal.returns-clause-serves
returns-clause-serves g c =
    let plans = plans_of (g.P.Planner.planned c.args.planner.now) in
    let xs = c.args.stations.now in
    let ys = c.give_passes.new.stations in
    let now = c.serve_given.new.stations in
    let total = c.serve_given.result in
    let m = g.S.Means.meaning (g.S.Answers.kind c.in_ok-service.service.subject) in
    let same = listeners_given xs ys c.in_ok-service.passes.items 0 (length xs) (g.S.Answers.kind c.args.subject) c.in_ok-service.service.lock c.in_ok-service.ensures.made c.give_passes.ensures.len refl c.give_passes.ensures.given in
    subst (λ k. ServesStore (g.S.Means.meaning k) plans g.L.Listener.told c.args.quota xs now total) c.in_ok-service.ensures.kind
    (serves_from m plans g.L.Listener.told c.args.quota xs ys now total c.give_passes.ensures.len same c.serve_given.ensures)
