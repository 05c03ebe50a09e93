use Rattle.worker_stations.proofs.joins.joined.Goals as goal

pub returns-in-None-clause-pass : goal.returns-in-None-clause-pass
returns-in-None-clause-pass g c = g.met.J.Joining.same c.args.pass
