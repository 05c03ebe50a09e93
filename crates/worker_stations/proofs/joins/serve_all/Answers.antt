use Rattle.worker_stations.proofs.Steps.{served_all}
use Rattle.worker_stations.proofs.joins.serve_all.Goals as goal

pub returns-clause-served : goal.returns-clause-served
returns-clause-served g c =
    served_all (g.J.Joining.ran c.args.lock.now) (g.J.Joining.own c.args.lock.now) g.J.Joining.within g.J.Joining.mine c.join_all.result c.args.stations.now c.run_each.new.stations c.join_all.new.stations
    c.run_each.ensures.len c.join_all.ensures.len c.run_each.ensures.each c.join_all.ensures.taken c.join_all.ensures.within c.join_all.ensures.mine
