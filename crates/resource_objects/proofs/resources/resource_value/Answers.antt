use Rattle.std.proofs.Common.{◌≡◌, ◌∙◌, ap, false}
use Rattle.std.proofs.lemmas.Result.{IfOk-weaker}
use Rattle.serde_json.specs.View.{view}
use Rattle.serde_json.specs.Written.{has_float}
use Rattle.store_model.specs.Resource.{resource}
use Rattle.resource_objects.proofs.Floats.{resource-no_float}
use Rattle.resource_objects.proofs.resources.resource_value.Goals as goal

pub returns-clause-plain : goal.returns-clause-plain
returns-clause-plain c =
    IfOk-weaker c.resource.result (λ v. view v ≡ resource c.args.schema.now c.args.row.now c.as_slice.result.now) (λ v. has_float (view v) ≡ false)
    (λ v same. ap has_float same ∙ resource-no_float c.args.schema.now c.args.row.now c.as_slice.result.now) c.resource.ensures
