use Rattle.std.proofs.Common.{◌≡◌, map}
use Rattle.std.specs.List.{enumerate_from}
use Rattle.serde_json.specs.View.{view}
use Rattle.request_model.specs.Words.{all_ok}
use Rattle.request_model.specs.ReadingLaws.{onto}
use Rattle.replay_script.specs.Scripts.{stream_at}
use Rattle.replay_script.proofs.Placed.{placed}
use Rattle.replay_script.proofs.arrays.read_streams.Given as goal

abbrev pub invariant-loop-place : goal.invariant-loop-place
invariant-loop-place l =
    all_ok (map stream_at (enumerate_from 0 (map view l.values))) ≡ onto l.streams.items (all_ok (map stream_at (placed l.values l.place)))
