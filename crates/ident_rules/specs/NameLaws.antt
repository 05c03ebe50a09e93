-- Laws of names: what is read as a name.
use Rattle.std.proofs.lemmas.Bool.{and_parts, and_from}
use Rattle.std.proofs.Common.{◌≡◌, ℕ, ◌-◌, ◌≤◌, ◌<◌, Bool, true, false, List, Option, [], ◌∷◌, length, Some, None, IsTrue, Ok, nat_lt, ◌==◌, refl, sym, ap, ◌∙◌, cond, arith}
use Rattle.std.specs.Prelude.{slice_index}
use Rattle.std.specs.Char.{is_ascii_alphanumeric}
use Rattle.std.proofs.lemmas.Bool.Decides.{nat_tests}
use Rattle.ident_rules.specs.declared.id.TheConstants.{ID_LIMIT}
use Rattle.ident_rules.specs.Id.{is_id, is_id_byte, bad_place}
use Rattle.ident_rules.specs.IdLaws.{length-is_id-le, length-is_id-pos, bad_place-is_id, list_all-from_position, is_id-holds}
use Rattle.ident_rules.specs.Name.{is_name, bad_name_place, or_bad_end, or_bad_name_byte, read_name}

-- a name is an id
pub is_id-is_name : (text : List ℕ) → IsTrue (is_name text) → IsTrue (is_id text)
is_id-is_name text name = (and_parts _ _ (and_parts _ _ name).0).0

first_of : (first : ℕ) (more : List ℕ) (b : Bool) (e : is_ascii_alphanumeric first ≡ b) → bad_name_place (first ∷ more) ≡ None
    → (is_ascii_alphanumeric first ≡ true) × (or_bad_end (first ∷ more) (bad_place (first ∷ more)) ≡ None)
first_of first more true e h = (e, sym (ap (λ t. cond t (or_bad_end (first ∷ more) (bad_place (first ∷ more))) (Some 0)) e) ∙ h)
first_of first more false e h = cc (sym (ap (λ t. cond t (or_bad_end (first ∷ more) (bad_place (first ∷ more))) (Some 0)) e) ∙ h)

-- where no end is bad, no byte before it is, and the last byte is a letter or a digit
end_of : (text : List ℕ) (place : Option ℕ) (b : Bool) → is_ascii_alphanumeric (slice_index text (length text - 1)) ≡ b → or_bad_end text place ≡ None
    → (place ≡ None) × (b ≡ true)
end_of text None true e h = (refl, refl)
end_of text None false e h = cc (sym (ap (λ t. cond t None (Some (length text - 1))) e) ∙ h)
end_of text (Some n) b e h = cc h

-- a text without a bad byte is a name
pub is_name-holds : (text : List ℕ) → 0 < length text → length text ≤ ID_LIMIT → bad_name_place text ≡ None → IsTrue (is_name text)
is_name-holds [] some fits none = absurd (omega arith)
is_name-holds (first ∷ more) some fits none =
    let begins = first_of first more (is_ascii_alphanumeric first) refl none in
    let ends = end_of (first ∷ more) (bad_place (first ∷ more)) (is_ascii_alphanumeric (slice_index (first ∷ more) (length (first ∷ more) - 1))) refl begins.1 in
    let id = is_id-holds (first ∷ more) some fits (list_all-from_position is_id_byte (first ∷ more) ends.0) in
    and_from _ _ (and_from _ _ id begins.0) ends.1

-- what is left to judge of a name's last byte
end_holds : (text : List ℕ) → bad_place text ≡ None → is_ascii_alphanumeric (slice_index text (length text - 1)) ≡ true → or_bad_end text (bad_place text) ≡ None
end_holds text none ends = ap (or_bad_end text) none ∙ ap (λ t. cond t None (Some (length text - 1))) ends

-- a name has no bad byte
pub bad_name_place-is_name : (text : List ℕ) → IsTrue (is_name text) → bad_name_place text ≡ None
bad_name_place-is_name [] name = refl
bad_name_place-is_name (first ∷ more) name =
    let text = first ∷ more in
    let parts = and_parts _ _ name in
    let begins : is_ascii_alphanumeric first ≡ true = (and_parts _ _ parts.0).1 in
    ap (λ t. cond t (or_bad_end (first ∷ more) (bad_place (first ∷ more))) (Some 0)) begins
    ∙ end_holds (first ∷ more) (bad_place-is_id (first ∷ more) (is_id-is_name (first ∷ more) name)) parts.1

-- a name is read as itself
pub read_name-is_name : (text : List ℕ) → IsTrue (is_name text) → read_name text ≡ Ok text
read_name-is_name text name =
    let id = is_id-is_name text name in
    let fits : length text ≤ ID_LIMIT = length-is_id-le text id in
    let some : 0 < length text = length-is_id-pos text id in
    let empty : (length text == 0) ≡ false = grind (arith, nat_tests, some) in
    let long : nat_lt ID_LIMIT (length text) ≡ false = grind (arith, nat_tests, fits) in
    rw (empty, long) (ap (or_bad_name_byte text) (bad_name_place-is_name text name))
