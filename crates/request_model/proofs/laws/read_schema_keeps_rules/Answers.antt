use Rattle.request_model.proofs.SchemaFileLemmas.{schema_of-is_schema, ordered-rises}
use Rattle.request_model.proofs.laws.read_schema_keeps_rules.Goals as goal

pub returns-clause-rules : goal.returns-clause-rules
returns-clause-rules c = schema_of-is_schema

pub returns-clause-names : goal.returns-clause-names
returns-clause-names c = ordered-rises
