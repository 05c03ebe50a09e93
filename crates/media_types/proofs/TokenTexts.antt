-- Tokens are text.
use Rattle.std.proofs.Common.{◌≡◌, ℕ, ◌<◌, true, List, arith}
use Rattle.std.specs.Prelude.{IsUtf8}
use Rattle.std.specs.List.{list_all}
use Rattle.std.proofs.lemmas.Bool.{and_parts}
use Rattle.std.proofs.lemmas.Bool.Decides.{nat_tests}
use Rattle.std.proofs.lemmas.Str.{IsUtf8-from_ascii}
use Rattle.std.proofs.lemmas.Str.Ascii.{IsAscii-from_all}
use Rattle.std.proofs.lemmas.List.Sums.{AllPass-from_list_all}
use Rattle.std.proofs.lemmas.List.Elements.{All-weaker}
use Rattle.request_model.specs.Words.{is_any}
use Rattle.request_model.specs.MediaTypes.{is_token_byte, is_token}

token_ascii : (b : ℕ) → is_token_byte b ≡ true → b < 128
token_ascii b token = grind (arith, nat_tests)

pub token_utf8 : (t : List ℕ) → is_token t ≡ true → IsUtf8 t
token_utf8 t h =
    let each = AllPass-from_list_all is_token_byte t (and_parts (is_any t) (list_all is_token_byte t) h).1 in
    IsUtf8-from_ascii t (IsAscii-from_all t (All-weaker (λ (b : ℕ). is_token_byte b ≡ true) (λ (b : ℕ). b < 128) token_ascii t each))
