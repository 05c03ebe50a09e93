use Rattle.std.proofs.Common.{◌≡◌, ◌<◌, Bool, true, false, refl, length, arith}
use Rattle.std.specs.Prelude.{◌&&◌, nat_lt, nat_le}
use Rattle.std.specs.Str.{is_utf8}
use Rattle.std.proofs.lemmas.Bool.Decides.{nat_tests}
use Rattle.std.proofs.lemmas.Str.{is_utf8-from_IsUtf8}
use Rattle.task_forms.specs.declared.operations.TheConstants.{LID_LIMIT}
use Rattle.resource_reader.proofs.creates.is_lid.Goals as goal

and_nothing : (b : Bool) → b ≡ (b && true)
and_nothing true = refl
and_nothing false = refl

pub returns-then-not-is_empty : goal.returns-then-not-is_empty
returns-then-not-is_empty c =
    let text = c.args.text.now in
    let any : 0 < length text = grind (arith, c.is_empty.ensures, c.if-not-is_empty.true, c.if-not-is_empty.ensures) in
    let some : nat_lt 0 (length text) ≡ true = grind (arith, nat_tests, any) in
    let utf8 : is_utf8 text ≡ true = is_utf8-from_IsUtf8 text c.utf8.text in
    rw (some, utf8) (and_nothing (nat_le (length text) LID_LIMIT))
