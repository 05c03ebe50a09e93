use Rattle.std.proofs.Common.{ap, ◌∙◌, map, Some}
use Rattle.serde_json.specs.View.{view, items_of}
use Rattle.cursor_codec.proofs.PlaceSteps.{place_in-items}
use Rattle.cursor_codec.proofs.places.place_in.Goals as goal

pub returns-in-Some : goal.returns-in-Some
returns-in-Some c =
    rw (place_in-items c.args.forms.now (view c.args.value.now) (map view c.deref.result.now) (ap (λ vs. Some (items_of (map view vs))) c.deref.ensures.value ∙ c.in-Some.ensures)) c.place_from.ensures
