-- A text as the value of an attribute.
use Rattle.std.proofs.Common.{◌≡◌, ℕ, ◌≤◌, refl, List, length, true, arith}
use Rattle.std.specs.Prelude.{Some, None, nat_le, ◌&&◌, if◌then◌else◌}
use Rattle.std.specs.Str.{is_utf8, IsUtf8}
use Rattle.std.proofs.lemmas.Bool.{and_from}
use Rattle.std.proofs.lemmas.Bool.Decides.{nat_tests}
use Rattle.std.proofs.lemmas.Str.{is_utf8-from_IsUtf8}
use Rattle.resource_schema.specs.declared.values.TheConstants.{TEXT_LIMIT}
use Rattle.resource_schema.specs.declared.values.Form.{Form}
use Rattle.resource_schema.specs.declared.values.Form.TheVariants as form
use Rattle.resource_schema.specs.declared.values.AttrValue.TheVariants as value
use Rattle.resource_schema.specs.Forms.{is_of}

short : (n : ℕ) → n ≤ TEXT_LIMIT → nat_le n TEXT_LIMIT ≡ true
short n few = grind (arith, nat_tests, few)

-- a text that is not too long is a value
pub text-fits : (f : Form) (text copy : List ℕ) → f ≡ form.Text → copy ≡ text → length text ≤ TEXT_LIMIT → IsUtf8 text
    → Some (value.Text copy) ≡ (if is_of f (value.Text text) then Some (value.Text text) else None)
text-fits f text copy is same few utf8 =
    let fits : (nat_le (length text) TEXT_LIMIT && is_utf8 text) ≡ true = and_from _ _ (short (length text) few) (is_utf8-from_IsUtf8 text utf8) in
    rw (is, fits, same) refl
