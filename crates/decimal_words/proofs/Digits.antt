-- The number of a word, from its digits.
use Rattle.std.proofs.Common.{◌≡◌, ℕ, ◌<◌, ◌≤◌, ◌^◌, ◌&&◌, Bool, true, false, List, length, None, Result, Ok, Err, refl, ap, sym, subst, ◌∙◌, arith, rules}
use Rattle.std.specs.Prelude.{nat_le, nat_lt}
use Rattle.std.specs.List.{list_all}
use Rattle.std.specs.Char.{is_ascii_digit}
use Rattle.std.specs.Result.{OkIff}
use Rattle.std.specs.Str.Parse.{digits_value, ParsesUnsigned}
use Rattle.std.proofs.lemmas.Bool.{and_parts}
use Rattle.std.proofs.lemmas.Bool.Decides.{nat_tests}
use Rattle.std.proofs.lemmas.Str.Parse.{IsNumeralModel, numerals_by_value, parse_digits}
use Rattle.decimal_words.specs.declared.numbers.TheConstants.{DIGIT_LIMIT}
use Rattle.decimal_words.specs.Words.{decimal_word, is_decimal, some_if}

own : IsNumeralModel (λ ds. list_all is_ascii_digit ds ≡ true) (digits_value 10)
own = numerals_by_value _ (search rules)

module _ (word : List ℕ) (least most : ℕ) where
  by_form : (b : Bool) → is_decimal word ≡ b → decimal_word word least most ≡ some_if (b && (nat_le least (digits_value 10 word) && nat_le (digits_value 10 word) most)) (digits_value 10 word)
  by_form b e = ap (λ b. some_if (b && (nat_le least (digits_value 10 word) && nat_le (digits_value 10 word) most)) (digits_value 10 word)) e

  pub no_form : is_decimal word ≡ false → None ≡ decimal_word word least most
  no_form e = sym (by_form false e)

  module _ {E : Type 0} (form : is_decimal word ≡ true) (r : Result ℕ E) (parsed : ParsesUnsigned 64 10 word r) where
    digits : OkIff r ((0 < length word) × (digits_value 10 word < 2 ^ 64)) (digits_value 10 word)
    digits = parse_digits own 64 word r parsed (and_parts _ _ form).1

  -- the number
  pub read_number : {E : Type 0} (r : Result ℕ E) (number : ℕ) → is_decimal word ≡ true → ParsesUnsigned 64 10 word r → r ≡ Ok number → some_if (nat_le least number && nat_le number most) number ≡ decimal_word word least most
  read_number {E} r number form parsed same =
      let is = (digits {E = E} form (Ok number) (subst (ParsesUnsigned 64 10 word) same parsed)).1 in
      sym (by_form true form ∙ ap (λ n. some_if (nat_le least n && nat_le n most) n) (sym is))

  past : (n : ℕ) → most < 2 ^ 64 → 2 ^ 64 ≤ n → nat_le n most ≡ false
  past n m l = grind (arith, nat_tests, m, l)

  no_less : (b : Bool) (n : ℕ) → nat_le n most ≡ false → some_if (b && nat_le n most) n ≡ None
  no_less true n e = ap (λ b. some_if b n) e
  no_less false n e = refl

  -- too great a number
  pub no_number : {E : Type 0} (e : E) → most < 2 ^ 64 → is_decimal word ≡ true → ParsesUnsigned 64 10 word (Err e) → None ≡ decimal_word word least most
  no_number e low form parsed =
      let digits_of = and_parts (nat_lt 0 (length word) && nat_le (length word) DIGIT_LIMIT) (list_all is_ascii_digit word) form in
      let any = and_parts (nat_lt 0 (length word)) (nat_le (length word) DIGIT_LIMIT) digits_of.0 in
      let some : 0 < length word = grind (arith, nat_tests, any.0) in
      let never = digits form (Err e) parsed in
      let great : 2 ^ 64 ≤ digits_value 10 word = omega (arith, λ (l : digits_value 10 word < 2 ^ 64). never (some, l)) in
      sym (by_form true form ∙ no_less (nat_le least (digits_value 10 word)) (digits_value 10 word) (past (digits_value 10 word) low great))
