use Rattle.std.proofs.Common.{◌≡◌, map, drop}
use Rattle.serde_json.specs.View.{view}
use Rattle.request_model.specs.Cursors.{place_from}
use Rattle.cursor_codec.specs.Places.{place_behind}
use Rattle.cursor_codec.proofs.places.place_from.Given as goal

abbrev pub invariant-loop-form : goal.invariant-loop-form
invariant-loop-form l = place_from l.forms (map view l.items) ≡ place_behind l.values.items (place_from (drop l.form-index l.forms) (map view l.left))
