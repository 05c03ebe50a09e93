-- The size of a page, from its digits.
use Rattle.std.proofs.Common.{◌≡◌, ℕ, ◌<◌, ◌≤◌, ◌^◌, ◌&&◌, Bool, true, false, List, length, None, Result, Ok, Err, refl, ap, sym, ◌∙◌, arith, rules}
use Rattle.std.specs.Prelude.{nat_le, nat_lt}
use Rattle.std.specs.List.{list_all}
use Rattle.std.specs.Char.{is_ascii_digit}
use Rattle.std.specs.Result.{OkIff}
use Rattle.std.specs.Str.Parse.{digits_value, ParsesUnsigned}
use Rattle.std.proofs.lemmas.Bool.{and_parts}
use Rattle.std.proofs.lemmas.Bool.Decides.{nat_tests}
use Rattle.std.proofs.lemmas.Str.Parse.{IsNumeralModel, numerals_by_value, parse_digits}
use Rattle.request_model.specs.Words.{some_if}
use Rattle.request_model.specs.Queries.{page_size_of, size_digits}
use Rattle.task_forms.specs.declared.queries.TheConstants.{PAGE_SIZE_LIMIT}

own : IsNumeralModel (λ ds. list_all is_ascii_digit ds ≡ true) (digits_value 10)
own = numerals_by_value _ (search rules)

-- 1 to so many digits
abbrev pub formed : List ℕ → Bool
formed value = nat_lt 0 (length value) && nat_le (length value) size_digits && list_all is_ascii_digit value

by_form : (value : List ℕ) (b : Bool) → formed value ≡ b → page_size_of value ≡ some_if (b && nat_le 1 (digits_value 10 value) && nat_le (digits_value 10 value) PAGE_SIZE_LIMIT) (digits_value 10 value)
by_form value b e = ap (λ b. some_if (b && nat_le 1 (digits_value 10 value) && nat_le (digits_value 10 value) PAGE_SIZE_LIMIT) (digits_value 10 value)) e

pub no_form : (value : List ℕ) → formed value ≡ false → None ≡ page_size_of value
no_form value e = sym (by_form value false e)

module _ {E : Type 0} (value : List ℕ) (form : formed value ≡ true) (r : Result ℕ E) (parsed : ParsesUnsigned 16 10 value r) where
  digits : OkIff r ((0 < length value) × (digits_value 10 value < 2 ^ 16)) (digits_value 10 value)
  digits = parse_digits own 16 value r parsed (and_parts _ _ form).1

-- the number
pub read_size : (E : Type 0) (value : List ℕ) (size : ℕ) → formed value ≡ true → ParsesUnsigned {E = E} 16 10 value (Ok size)
    → page_size_of value ≡ some_if (nat_le 1 size && nat_le size PAGE_SIZE_LIMIT) size
read_size E value size form parsed =
    let is = (digits {E = E} value form (Ok size) parsed).1 in
    by_form value true form ∙ ap (λ n. some_if (nat_le 1 n && nat_le n PAGE_SIZE_LIMIT) n) (sym is)

past : (n : ℕ) → 2 ^ 16 ≤ n → nat_le n PAGE_SIZE_LIMIT ≡ false
past n l = grind (arith, nat_tests, l)

no_less : (b : Bool) (n : ℕ) → nat_le n PAGE_SIZE_LIMIT ≡ false → some_if (b && nat_le n PAGE_SIZE_LIMIT) n ≡ None
no_less true n e = ap (λ b. some_if b n) e
no_less false n e = refl

-- too great a number
pub no_size : {E : Type 0} (value : List ℕ) (e : E) → formed value ≡ true → ParsesUnsigned 16 10 value (Err e) → None ≡ page_size_of value
no_size value e form parsed =
    let digits_of = and_parts (nat_lt 0 (length value) && nat_le (length value) size_digits) (list_all is_ascii_digit value) form in
    let any = and_parts (nat_lt 0 (length value)) (nat_le (length value) size_digits) digits_of.0 in
    let some : 0 < length value = grind (arith, nat_tests, any.0) in
    let never = digits value form (Err e) parsed in
    let not_less : digits_value 10 value < 2 ^ 16 → ⊥ = λ l. never (some, l) in
    let great : 2 ^ 16 ≤ digits_value 10 value = omega (arith, not_less) in
    sym (by_form value true form ∙ no_less (nat_le 1 (digits_value 10 value)) (digits_value 10 value) (past (digits_value 10 value) great))
