use Rattle.std.proofs.Common.{◌∙◌, sym, subst}
use Rattle.std.specs.Str.Parse.{ParsesUnsigned}
use Rattle.decimal_words.proofs.Digits.{no_form, no_number, read_number}
use Rattle.decimal_words.proofs.numbers.decimal_word.Goals as goal

pub returns-then-not-is_decimal : goal.returns-then-not-is_decimal
returns-then-not-is_decimal c = no_form c.args.word.now c.args.least c.args.most (sym c.is_decimal.ensures ∙ c.if-not-is_decimal.true)

pub returns-in-Ok : goal.returns-in-Ok
returns-in-Ok c =
    c.within.ensures
    ∙ read_number c.args.word.now c.args.least c.args.most c.parse.result c.in-Ok.number (sym c.is_decimal.ensures ∙ c.if-not-is_decimal.false) c.parse.ensures.value.0 c.in-Ok.is

pub returns-in-Err : goal.returns-in-Err
returns-in-Err c =
    no_number c.args.word.now c.args.least c.args.most c.in-Err.field-0 c.ranges.most.fits (sym c.is_decimal.ensures ∙ c.if-not-is_decimal.false) (subst (ParsesUnsigned 64 10 c.args.word.now) c.in-Err.is c.parse.ensures.value.0)
