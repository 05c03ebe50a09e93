use Rattle.include_walk.proofs.Walking.{walked}
use Rattle.include_walk.proofs.walks.walk.Goals as goal

pub returns : goal.returns
returns g c =
    walked c.args.schema.now g.V.View.cells c.args.primary.now c.args.paths.now c.args.recorder.now c.walk_all.new.recorder c.rows_at.new.recorder c.in_ok-reached.reached.keys c.remove_all.new.set.keys c.in_ok-keys.keys.items c.as_slice.result.now
    c.in_ok-reached.ensures.looks c.rows_at.ensures.looks c.in_ok-reached.ensures.sees c.remove_all.ensures c.in_ok-keys.ensures.same c.as_slice.ensures.value c.in_ok-keys.ensures.rising c.in_ok-reached.ensures.reach
    c.included_is_one.ensures c.included_is_reached.ensures (λ v. v.items) c.rows_at.result (c.rows_at.ensures.sees c.args.schema.now)
