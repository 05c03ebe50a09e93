use Rattle.std.proofs.Common.{◌∙◌, Some, None, arith}
use Rattle.std.proofs.lemmas.Str.Pattern.{strip_prefix_char}
use Rattle.query_families.proofs.SortKeys.{plain_key, signed_key}
use Rattle.query_families.proofs.sorts.sort_key_of.Goals as goal

pub returns-in-Some : goal.returns-in-Some
returns-in-Some c =
    c.key_named.ensures
    ∙ signed_key c.args.schema.now c.args.kind c.args.text.now c.in-Some.name.now (strip_prefix_char 45 c.args.text.now (Some c.in-Some.name) c.in-Some.ensures.cases (omega arith))

pub returns-in-None : goal.returns-in-None
returns-in-None c =
    c.key_named-in-None.ensures
    ∙ plain_key c.args.schema.now c.args.kind c.args.text.now (strip_prefix_char 45 c.args.text.now None c.in-None.ensures.cases (omega arith))
