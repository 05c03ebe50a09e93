-- The text of a segment, from what the decoder says of its bytes.
use Rattle.std.proofs.Common.{◌≡◌, ℕ, List, Bool, true, false, Some, None, refl, sym, ap, cond, IsUtf8}
use Rattle.std.specs.Str.{is_utf8}
use Rattle.std.proofs.lemmas.Str.{IsUtf8-from_is_utf8, is_utf8-from_IsUtf8}
use Rattle.percent_encoding.specs.Percent.{percent_decode}
use Rattle.request_model.specs.Targets.{decode_segment}

pub segment-text : (segment : List ℕ) → IsUtf8 (percent_decode segment) → Some (percent_decode segment) ≡ decode_segment segment
segment-text segment utf8 = sym (ap (λ b. cond b (Some (percent_decode segment)) None) (is_utf8-from_IsUtf8 _ utf8))

none_by : (bytes : List ℕ) (b : Bool) → is_utf8 bytes ≡ b → ¬ (IsUtf8 bytes) → None ≡ cond b (Some bytes) None
none_by bytes true e isnt = absurd (isnt (IsUtf8-from_is_utf8 bytes e))
none_by bytes false e isnt = refl

pub segment-none : (segment : List ℕ) → ¬ (IsUtf8 (percent_decode segment)) → None ≡ decode_segment segment
segment-none segment isnt = none_by (percent_decode segment) _ refl isnt
