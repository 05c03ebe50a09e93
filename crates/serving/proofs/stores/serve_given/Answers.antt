use Rattle.std.proofs.Common.{subst}
use Rattle.serving.specs.Working.{IsOfStore, WorkersState}
use Rattle.serving.proofs.Whole.{counted, has_all, served_as, serves_store}
use Rattle.serving.proofs.stores.serve_given.Goals as goal

pub close-core-requires-clause-all : goal.close-core-requires-clause-all
close-core-requires-clause-all g c =
    let told = g.L.Listener.told in
    let w : WorkersState g.row.S.Denot g.row.P.Denot = record { service = c.args.service; planner = c.args.planner.now; quota = c.args.quota } in
    let xs = c.args.stations.now in
    let ys = c.serve_all.new.stations in
    let served = served_as g.S.Answers.kind g.P.Planner.planned told c.new-workers.result w c.in-Some.whole xs ys c.new-workers.ensures c.in-Some.ensures.served in
    has_all g.S.Answers.kind (g.P.Planner.planned w.planner) told w.quota w.service c.in-Some.whole xs ys c.requires.quota c.requires.few c.requires.start c.requires.passes served c.requires.some

pub served_by-requires-clause-counted : goal.served_by-requires-clause-counted
served_by-requires-clause-counted g c =
    let told = g.L.Listener.told in
    let w : WorkersState g.row.S.Denot g.row.P.Denot = record { service = c.args.service; planner = c.args.planner.now; quota = c.args.quota } in
    let xs = c.args.stations.now in
    let ys = c.serve_all.new.stations in
    let served = served_as g.S.Answers.kind g.P.Planner.planned told c.new-workers.result w c.in-Some.whole xs ys c.new-workers.ensures c.in-Some.ensures.served in
    counted g.S.Answers.kind (g.P.Planner.planned w.planner) told w.quota w.service c.in-Some.whole xs ys c.requires.quota c.requires.few c.requires.start c.requires.passes served

pub returns : goal.returns
returns g c =
    let told = g.L.Listener.told in
    let w : WorkersState g.row.S.Denot g.row.P.Denot = record { service = c.args.service; planner = c.args.planner.now; quota = c.args.quota } in
    let xs = c.args.stations.now in
    let ys = c.serve_all.new.stations in
    let served = served_as g.S.Answers.kind g.P.Planner.planned told c.new-workers.result w c.in-Some.whole xs ys c.new-workers.ensures c.in-Some.ensures.served in
    let of_store = subst (λ (u : WorkersState g.row.S.Denot g.row.P.Denot). IsOfStore g.S.Answers.kind u.service c.in-Some.whole) c.new-workers.ensures c.in-Some.ensures.own in
    let closed = c.close-core in
    let told_counts = c.served_by.ensures in
    serves_store g.S.Answers.kind (g.P.Planner.planned w.planner) told w.quota w.service c.in-Some.whole xs ys c.requires.quota c.requires.few c.requires.start c.requires.passes served closed.ensures.mine
    g.S.Means.meaning closed.result.0 c.served_by.result closed.result.1 of_store closed.ensures.stands closed.ensures.kind closed.ensures.count told_counts.sessions told_counts.requests told_counts.entries
