use Rattle.std.proofs.Common.{map, ap, sym, ◌+◌, ◌∙◌}
use Rattle.std.specs.List.{enumerate_from}
use Rattle.serde_json.specs.View.{view}
use Rattle.request_model.specs.ReadingLaws.{onto, rest-more}
use Rattle.request_model.specs.Words.{all_ok}
use Rattle.replay_script.specs.Scripts.{stream_at}
use Rattle.replay_script.proofs.Placed.{placed, placed-next}
use Rattle.replay_script.proofs.arrays.read_streams.Goals as goal

pub loop-place-preserved : goal.loop-place-preserved
loop-place-preserved c =
    let values = c.args.values.now in
    let place = c.loop-place.place in
    let here = placed-next values place c.index-values-place.result c.loop-place-test.true c.index-values-place.is in
    rest-more stream_at (enumerate_from 0 (map view values)) c.loop-place.streams.items (placed values place) c.loop-place.invariant
    (place, view c.index-values-place.result) (placed values (place + 1)) c.in-Ok.stream here c.in-Ok.ensures
    ∙ ap (λ items. onto items (all_ok (map stream_at (placed values (place + 1))))) (sym c.in_ok-push-in-Ok.ensures.items)
