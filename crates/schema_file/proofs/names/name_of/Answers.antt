use Rattle.std.proofs.Common.{ap, ◌∙◌}
use Rattle.std.specs.Result.{result_ok}
use Rattle.request_model.specs.ReadingLaws.{name_or_none}
use Rattle.schema_file.proofs.names.name_of.Goals as goal

pub returns-clause-value : goal.returns-clause-value
returns-clause-value c = c.ok.ensures.value ∙ ap result_ok c.read_name.ensures ∙ name_or_none c.args.text.now
