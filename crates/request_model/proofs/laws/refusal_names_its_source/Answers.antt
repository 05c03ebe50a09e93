use Rattle.request_model.proofs.Sources.{refused-sourced}
use Rattle.request_model.proofs.laws.refusal_names_its_source.Goals as goal

pub returns : goal.returns
returns c = refused-sourced
