use Rattle.std.specs.Prelude.{codes}
use Rattle.serde_json.specs.View.{view}
use Rattle.request_model.specs.OperationLists.{absent}
use Rattle.operation_reader.specs.Parts.{without_data}
use Rattle.operation_reader.proofs.Stops.{stop_first}
use Rattle.operation_reader.proofs.lists.without_results.Goals as goal

pub returns-in-Err : goal.returns-in-Err
returns-in-Err c =
    stop_first c.in-Err.stop (absent (codes "atomic:results") (view c.args.document.now)) (without_data c.args.schema.now (view c.args.document.now)) c.in-Err.ensures
