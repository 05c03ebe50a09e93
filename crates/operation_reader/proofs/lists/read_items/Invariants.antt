use Rattle.std.proofs.Common.{◌≡◌, map}
use Rattle.std.specs.List.{enumerate_from}
use Rattle.serde_json.specs.View.{view}
use Rattle.request_model.specs.Words.{all_ok}
use Rattle.request_model.specs.ReadingLaws.{onto}
use Rattle.operation_reader.specs.Parts.{operation_at}
use Rattle.operation_reader.proofs.Items.{placed}
use Rattle.operation_reader.proofs.lists.read_items.Given as goal

abbrev pub invariant-loop-place : goal.invariant-loop-place
invariant-loop-place l =
    all_ok (map (operation_at l.schema) (enumerate_from 0 (map view l.values))) ≡ onto l.operations.items (all_ok (map (operation_at l.schema) (placed l.values l.place)))
