use Rattle.std.proofs.Common.{sym, ◌∙◌}
use Rattle.query_families.proofs.SizeDigits.{no_size}
use Rattle.query_families.proofs.sizes.page_size_of.Goals as goal

pub returns-in-Err : goal.returns-in-Err
returns-in-Err c = no_size c.args.value.now c.in-Err.field-0 (sym c.has_size_form.ensures ∙ c.if-not-has_size_form.false) c.in-Err.ensures.value.0
