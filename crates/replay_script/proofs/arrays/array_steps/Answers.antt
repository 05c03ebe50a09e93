use Rattle.std.proofs.Common.{ap, ◌∙◌, map, Some}
use Rattle.serde_json.specs.View.{view, items_of}
use Rattle.replay_script.proofs.Placed.{array_steps-items}
use Rattle.replay_script.proofs.arrays.array_steps.Goals as goal

pub returns-in-Some : goal.returns-in-Some
returns-in-Some c =
    rw (array_steps-items c.args.count (view c.args.value.now) (map view c.deref.result.now) (ap (λ vs. Some (items_of (map view vs))) c.deref.ensures.value ∙ c.in-Some.ensures)) c.items_steps.ensures
