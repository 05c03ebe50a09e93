-- Numbers among the words behind the program's name (of this project).
use Rattle.std.specs.Prelude.{ℕ, Bool, List, length, if◌then◌else◌, Option, Some, None, ◌&&◌, nat_le, nat_lt}
use Rattle.std.specs.List.{list_all}
use Rattle.std.specs.Char.{is_ascii_digit}
use Rattle.std.specs.Str.Parse.{digits_value}
use Rattle.decimal_words.specs.declared.numbers.TheConstants.{DIGIT_LIMIT}

abbrev pub some_if : {A : Type 0} → Bool → A → Option A
some_if b x = if b then Some x else None

-- 1 to 20 digits
abbrev pub is_decimal : List ℕ → Bool
is_decimal word = nat_lt 0 (length word) && nat_le (length word) DIGIT_LIMIT && list_all is_ascii_digit word

-- the number that they tell, from one number up to another
abbrev pub decimal_word : List ℕ → ℕ → ℕ → Option ℕ
decimal_word word least most = some_if (is_decimal word && (nat_le least (digits_value 10 word) && nat_le (digits_value 10 word) most)) (digits_value 10 word)
