use Rattle.std.proofs.Common.{arith, length, length-set, ◌∙◌, refl, ap, get_or, ◌<◌}
use Rattle.worker_stations.specs.Stations.{IsTaken, count_of}
use Rattle.worker_stations.proofs.Steps.{changed_more, kept_after, sum_more, within_step, was}
use Rattle.std.proofs.lemmas.List.{get_or_default}
use Rattle.worker_stations.proofs.joins.join_all.Goals as goal

pub loop-k-preserved : goal.loop-k-preserved
loop-k-preserved g c =
    let i = c.loop-k.invariant in
    let xs = c.args.stations.now in
    let ys = c.loop-k.stations in
    let k = c.loop-k.k in
    let s = get_or ys k c.index-stations-k.result in
    let t = c.take_pass-pass.new.station in
    let within = c.loop-k-test.true in
    let inside : k < length ys = omega (arith, within, i.len) in
    record {
      len = length-set ys k t ∙ i.len;
      before = changed_more IsTaken xs ys k s t within i.len (λ d. get_or_default ys k d c.index-stations-k.result inside) i.after i.before c.take_pass-pass.ensures.taken;
      after = kept_after IsTaken xs ys k s t within i.len (λ d. get_or_default ys k d c.index-stations-k.result inside) i.after;
      some = λ _. refl;
      own = c.joined.ensures.own;
      within = within_step g.J.Joining.within g.met.J.Joining.then (λ x. x.pass) xs k s c.take_pass-pass.result c.loop-k.whole c.joined.result
          (was IsTaken xs ys k s t within i.len (λ d. get_or_default ys k d c.index-stations-k.result inside) i.after)
          i.some c.joined.ensures.whole i.within c.take_pass-pass.ensures.pass c.joined.ensures.pass;
      mine = c.joined.ensures.mine ∙ (let sum = sum_more (λ x. count_of g.J.Joining.mine x.pass) xs k s within (was IsTaken xs ys k s t within i.len (λ d. get_or_default ys k d c.index-stations-k.result inside) i.after s) in let one = ap (count_of g.J.Joining.mine) c.take_pass-pass.ensures.pass in omega (arith, sum, one, i.mine));
    }
