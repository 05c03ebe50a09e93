use Rattle.std.proofs.Common.{◌≡◌, arith, length, length-set, ◌∙◌}
use Rattle.std.specs.Prelude.{vec_len}
use Rattle.serving.proofs.Giving.{before_less, given_more, left_less, none_left, one_less}
use Rattle.serving.proofs.passes.give_passes.Goals as goal

pub giving-preserved : goal.giving-preserved
giving-preserved g c =
    let i = c.giving.invariant in
    let all = c.args.passes.items in
    let old = c.giving.passes.items in
    let new = c.pop.new.self.items in
    let xs = c.args.stations.now in
    let ys = c.giving.stations in
    let k = c.len-place.result in
    let s = c.index-stations-place.result in
    let t = c.put_pass.new.station in
    let x = c.in-Some.pass in
    let popped = c.in-Some.ensures.items in
    let at : k ≡ length new = omega (arith, c.len-place.ensures, c.pop.new.self.ok) in
    let n = one_less all old new x popped i.left in
    record {
      len = length-set ys k t ∙ i.len;
      few = omega (arith, n, i.few);
      left = left_less all old new x popped i.left;
      before = before_less all old new xs ys k s t x i.len i.few popped at i.left i.before c.put_pass.ensures;
      given = given_more all old new xs ys k s t x i.len i.few popped at i.left i.before c.put_pass.ensures i.given;
    }

pub returns-clause-given : goal.returns-clause-given
returns-clause-given g c =
    let none = none_left (vec_len c.giving.passes) c.in_default.ensures.variant.1 in
    λ i d p h. c.giving.invariant.given i d p (omega (arith, none, c.giving.passes.ok)) h
