use Rattle.std.proofs.Common.{◌≡◌, map}
use Rattle.std.specs.List.{enumerate_from}
use Rattle.serde_json.specs.View.{view}
use Rattle.request_model.specs.Words.{all_ok}
use Rattle.request_model.specs.ReadingLaws.{onto}
use Rattle.request_model.specs.Documents.{indexed}
use Rattle.resource_reader.specs.Spots.{spot_pointer}
use Rattle.resource_reader.proofs.Items.{placed}
use Rattle.resource_reader.proofs.linkages.read_items.Given as goal

abbrev pub invariant-loop-place : goal.invariant-loop-place
invariant-loop-place l =
    all_ok (map (indexed l.schema l.kind (spot_pointer l.spot)) (enumerate_from 0 (map view l.values))) ≡ onto l.members.items (all_ok (map (indexed l.schema l.kind (spot_pointer l.spot)) (placed l.values l.place)))
