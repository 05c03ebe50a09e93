use Rattle.std.proofs.Common.{ap, ◌∙◌}
use Rattle.std.specs.Prelude.{slice_get}
use Rattle.resource_schema.proofs.KindRules.{found-few}
use Rattle.resource_schema.proofs.schema.Schema.kind.Goals as goal

pub returns-clause-few : goal.returns-clause-few
returns-clause-few c = found-few c.args.self.now c.args.kind c.nth_kind.result c.kinds.ensures.rules (c.nth_kind.ensures ∙ ap (λ s. slice_get s c.args.kind) c.kinds.ensures.kinds)
