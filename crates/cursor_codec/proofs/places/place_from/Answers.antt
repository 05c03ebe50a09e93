use Rattle.std.proofs.Common.{map}
use Rattle.serde_json.specs.View.{view}
use Rattle.cursor_codec.proofs.PlaceSteps.{step-none}
use Rattle.cursor_codec.proofs.places.place_from.Goals as goal

pub returns-in_default : goal.returns-in_default
returns-in_default c =
    step-none c.args.forms.now (map view c.args.items.now) c.loop-form.values.items c.loop-form.form-index c.loop-form.left.now c.loop-form.invariant c.loop-form-test.true c.in_default.ensures.cases
