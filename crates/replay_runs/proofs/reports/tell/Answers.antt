use Rattle.std.proofs.Common.{◌≡◌, refl, ◌∙◌}
use Rattle.replay_runs.proofs.Reporting.{map_take}
use Rattle.replay_runs.proofs.reports.tell.Goals as goal

pub telling-preserved : goal.telling-preserved
telling-preserved c =
    let x = c.stream-item.result in
    record {
      ends = map_take _ c.args.streams.now c.telling.stream-index x _ _ _ c.telling-test.true c.stream-item.is c.telling.invariant.ends c.unwrap_or.ensures c.in_ok-push.ensures.items;
      refused = map_take _ c.args.streams.now c.telling.stream-index x _ _ _ c.telling-test.true c.stream-item.is c.telling.invariant.refused refl c.in_ok-push-2.ensures.items;
      replies = map_take _ c.args.streams.now c.telling.stream-index x _ _ _ c.telling-test.true c.stream-item.is c.telling.invariant.replies (c.in_ok-from_slice.ensures ∙ c.written.ensures) c.in_ok-push-3.ensures.items;
    }
