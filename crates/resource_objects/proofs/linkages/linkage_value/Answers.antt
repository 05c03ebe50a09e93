use Rattle.std.proofs.Common.{◌≡◌, ◌∙◌, ap, false}
use Rattle.std.proofs.lemmas.Result.{IfOk-weaker}
use Rattle.serde_json.specs.View.{view}
use Rattle.serde_json.specs.Written.{has_float}
use Rattle.store_model.specs.Resource.{linkage}
use Rattle.resource_objects.proofs.Floats.{linkage-no_float}
use Rattle.resource_objects.proofs.linkages.linkage_value.Goals as goal

pub returns-clause-plain : goal.returns-clause-plain
returns-clause-plain c =
    IfOk-weaker c.linkage.result (λ v. view v ≡ linkage c.args.schema.now c.target_of.result c.args.link.now) (λ v. has_float (view v) ≡ false)
    (λ v same. ap has_float same ∙ linkage-no_float c.args.schema.now c.target_of.result c.args.link.now) c.linkage.ensures
