use Rattle.std.proofs.Common.{◌∙◌, sym, subst, take}
use Rattle.std.specs.Prelude.{IsUtf8}
use Rattle.http_framing.proofs.HeadTexts.{token_text, names_text}
use Rattle.http_framing.proofs.texts.message_of.Goals as goal

pub text_of-requires : goal.text_of-requires
text_of-requires c = subst IsUtf8 (sym (c.of.ensures ∙ c.requires.at.method)) (token_text c.requires.head.method c.requires.at.reads.0.method)

pub fields_of-requires-clause-text : goal.fields_of-requires-clause-text
fields_of-requires-clause-text c = names_text c.args.bytes.now (take c.args.spans.headers c.args.headers.now) c.requires.head.fields c.requires.at.fields c.requires.at.reads.0.fields
