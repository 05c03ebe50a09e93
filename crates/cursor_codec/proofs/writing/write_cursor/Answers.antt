use Rattle.std.proofs.Common.{ap, ◌∙◌}
use Rattle.serde_json.specs.Written.{has_float}
use Rattle.cursor_codec.proofs.Floats.{place-no_float}
use Rattle.cursor_codec.proofs.writing.write_cursor.Goals as goal

pub render-requires : goal.render-requires
render-requires c = ap has_float c.in_ok-value.ensures ∙ place-no_float c.args.place.now
