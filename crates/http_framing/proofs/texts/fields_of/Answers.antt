use Rattle.std.proofs.Common.{sym, subst}
use Rattle.std.specs.Prelude.{IsUtf8}
use Rattle.http_framing.proofs.texts.fields_of.Goals as goal

pub text_of-requires : goal.text_of-requires
text_of-requires c = subst IsUtf8 (sym c.of.ensures) (c.requires.text c.loop-header.header-index _ c.loop-header-test.true)
