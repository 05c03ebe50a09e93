-- Worked examples of numbers among words.
use Rattle.std.specs.Prelude.{◌≡◌, refl, [], codes, Some, None}
use Rattle.decimal_words.specs.Words.{decimal_word}

leading : decimal_word (codes "007") 1 64 ≡ Some 7
leading = refl

greatest : decimal_word (codes "18446744073709551615") 0 18446744073709551615 ≡ Some 18446744073709551615
greatest = refl

signed : decimal_word (codes "+7") 1 64 ≡ None
signed = refl

empty : decimal_word [] 0 64 ≡ None
empty = refl

least : decimal_word (codes "0") 1 64 ≡ None
least = refl

beyond : decimal_word (codes "65") 1 64 ≡ None
beyond = refl

longer : decimal_word (codes "000000000000000000007") 1 64 ≡ None
longer = refl
