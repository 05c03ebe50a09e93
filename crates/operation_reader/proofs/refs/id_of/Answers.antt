use Rattle.std.proofs.Common.{ap, ◌∙◌}
use Rattle.std.specs.Result.{result_ok}
use Rattle.request_model.specs.ReadingLaws.{id_or_none}
use Rattle.operation_reader.proofs.refs.id_of.Goals as goal

pub returns : goal.returns
returns c = c.ok.ensures.value ∙ ap result_ok c.read_id.ensures ∙ id_or_none c.args.text.now
