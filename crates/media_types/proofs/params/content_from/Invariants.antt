use Rattle.std.proofs.Common.{◌≡◌, ◌++◌, drop}
use Rattle.std.specs.Prelude.{option_map}
use Rattle.request_model.specs.declared.forms.Quoting.TheVariants.{Within}
use Rattle.request_model.specs.MediaTypes.{content_from}
use Rattle.media_types.proofs.params.content_from.Given as goal

abbrev pub invariant-loop-byte : goal.invariant-loop-byte
invariant-loop-byte l = content_from Within l.text ≡ option_map (λ r. l.content.items ++ r) (content_from l.at (drop l.byte-index l.text))
