use Rattle.std.proofs.Common.{ℕ, List, subst, ◌∙◌}
use Rattle.serde_json.specs.View.{view}
use Rattle.request_model.specs.OperationLists.{with_data}
use Rattle.ident_rules.specs.StepErrors.{Gives}
use Rattle.operation_reader.proofs.operations.with_own_data.Goals as goal

pub returns : goal.returns
returns c = subst (λ (p : List ℕ). Gives c.with_data.result (with_data c.args.schema.now p c.args.act (view c.args.value.now))) (c.as_str.ensures ∙ c.in_ok-at.ensures) c.with_data.ensures
