-- The cursor of a place is read back as the place.
use Rattle.std.specs.Prelude.{ℕ, ℤ, pos, negsuc, ◌<◌, ◌^◌, ◌++◌, Bool, true, nat_lt, IsUtf8, List, [], ◌∷◌, map, suc, max, Option, Some, Ok, option_and_then, get_or}
use Rattle.std.specs.Result.{result_ok}
use Rattle.std.specs.List.{AllZip}
use Rattle.std.proofs.lemmas.Bool.{and_parts}
use Rattle.std.proofs.lemmas.Str.{IsUtf8-from_is_utf8}
use Rattle.std.specs.Str.{bytes_eq}
use Rattle.std.proofs.Common.{◌≡◌, refl, ap, ◌∙◌, arith}
use Rattle.std.proofs.lemmas.Bool.Decides.{nat_tests}
use Rattle.std.proofs.lemmas.Slice.Eq.{bytes_eq-Decides}
use Rattle.serde_json.specs.Data.{Data, string, array, depth, items_depth}
use Rattle.serde_json.specs.Find.{as_array}
use Rattle.serde_json.specs.View.{items_of}
use Rattle.serde_json.specs.Written.{compact_text}
use Rattle.base64.specs.Engines.{url_safe_no_pad}
use Rattle.base64.specs.GeneralPurpose.{decode_of, IsConsistent}
use Rattle.base64.proofs.EngineFacts.{decode_of-encode_of}
use Rattle.ident_rules.specs.Id.{is_id}
use Rattle.ident_rules.specs.IdLaws.{IsUtf8-is_id}
use Rattle.json_forms.specs.Json.{json_of, items_list}
use Rattle.json_forms.specs.Plain.{IsPlain, ArePlain, HasUtf8, HaveUtf8}
use Rattle.resource_schema.specs.declared.values.Form.{Form}
use Rattle.resource_schema.specs.declared.values.Form.TheVariants as form
use Rattle.resource_schema.specs.declared.values.AttrValue.{AttrValue}
use Rattle.resource_schema.specs.declared.values.AttrValue.TheVariants as value
use Rattle.resource_schema.specs.declared.values.Place.{Place}
use Rattle.resource_schema.specs.Forms.{has_form, is_i64}
use Rattle.request_model.specs.Words.{some_if}
use Rattle.request_model.specs.Values.{integer, value_data, plain_value, value_from}
use Rattle.request_model.specs.Cursors.{cursor_text, IsPlaceOf, place_from, place_of_cursor}
use Rattle.request_model.specs.Options as option
use Rattle.request_model.specs.ReadingLaws.{items_list-items_of}

-- ---- one value

int_fits : (f : Form) (nullable : Bool) (z : ℤ) → has_form f nullable (value.Int z) ≡ true → is_i64 z ≡ true
int_fits form.Int nullable z e = e
int_fits form.Text nullable z e = cc e
int_fits form.Bool nullable z e = cc e

small : (n : ℕ) → nat_lt n (2 ^ 63) ≡ true → n < 2 ^ 63
small n e = grind (arith, nat_tests, e)

below : (n : ℕ) → n < 2 ^ 63 → n < 2 ^ 64
below n l = omega arith

int-plain : (z : ℤ) → is_i64 z ≡ true → IsPlain (integer z)
int-plain (pos n) e = below n (small n e)
int-plain (negsuc n) e = small n e

data-plain : (f : Form) (nullable : Bool) (v : AttrValue) → has_form f nullable v ≡ true → IsPlain (value_data v)
data-plain f nullable value.Null e = tt
data-plain f nullable (value.Int z) e = int-plain z (int_fits f nullable z e)
data-plain f nullable (value.Text t) e = tt
data-plain f nullable (value.Bool b) e = tt

int-utf8 : (z : ℤ) → HasUtf8 (integer z)
int-utf8 (pos n) = tt
int-utf8 (negsuc n) = tt

text_fits : (f : Form) (nullable : Bool) (t : List ℕ) → has_form f nullable (value.Text t) ≡ true → IsUtf8 t
text_fits form.Int nullable t e = cc e
text_fits form.Text nullable t e = IsUtf8-from_is_utf8 t (and_parts _ _ e).1
text_fits form.Bool nullable t e = cc e

data-utf8 : (f : Form) (nullable : Bool) (v : AttrValue) → has_form f nullable v ≡ true → HasUtf8 (value_data v)
data-utf8 f nullable value.Null e = tt
data-utf8 f nullable (value.Int z) e = int-utf8 z
data-utf8 f nullable (value.Text t) e = text_fits f nullable t e
data-utf8 f nullable (value.Bool b) e = tt

int-flat : (z : ℤ) → depth (integer z) ≡ 0
int-flat (pos n) = refl
int-flat (negsuc n) = refl

data-flat : (v : AttrValue) → depth (value_data v) ≡ 0
data-flat value.Null = refl
data-flat (value.Int z) = int-flat z
data-flat (value.Text t) = refl
data-flat (value.Bool b) = refl

int-back : (z : ℤ) → is_i64 z ≡ true → plain_value (integer z) ≡ Some (value.Int z)
int-back (pos n) e = rw e refl
int-back (negsuc n) e = refl

plain-back : (f : Form) (nullable : Bool) (v : AttrValue) → has_form f nullable v ≡ true → plain_value (value_data v) ≡ Some v
plain-back f nullable value.Null e = refl
plain-back f nullable (value.Int z) e = int-back z (int_fits f nullable z e)
plain-back f nullable (value.Text t) e = refl
plain-back f nullable (value.Bool b) e = refl

-- a value is read back from what is written for it
pub value-back : (f : Form) (nullable : Bool) (v : AttrValue) → has_form f nullable v ≡ true → value_from f nullable (value_data v) ≡ Some v
value-back f nullable v e =
    ap (λ o. option_and_then (λ v. some_if (has_form f nullable v) v) o) (plain-back f nullable v e) ∙ ap (λ b. some_if b v) e

-- ---- a place

abbrev data_of : List AttrValue → List ℕ → List Data
data_of values id = map value_data values ++ string id ∷ []

place-plain : (forms : List (Form × Bool)) (values : List AttrValue) (id : List ℕ) → AllZip (λ f v. has_form f.0 f.1 v ≡ true) forms values → ArePlain (items_of (data_of values id))
place-plain [] [] id z = (tt, tt)
place-plain [] (v ∷ values) id z = absurd z
place-plain (f ∷ forms) [] id z = absurd z
place-plain (f ∷ forms) (v ∷ values) id z = (data-plain f.0 f.1 v z.0, place-plain forms values id z.1)

place-utf8 : (forms : List (Form × Bool)) (values : List AttrValue) (id : List ℕ) → AllZip (λ f v. has_form f.0 f.1 v ≡ true) forms values → IsUtf8 id → HaveUtf8 (items_of (data_of values id))
place-utf8 [] [] id z u = (u, tt)
place-utf8 [] (v ∷ values) id z u = absurd z
place-utf8 (f ∷ forms) [] id z u = absurd z
place-utf8 (f ∷ forms) (v ∷ values) id z u = (data-utf8 f.0 f.1 v z.0, place-utf8 forms values id z.1 u)

place-flat : (values : List AttrValue) (id : List ℕ) → items_depth (items_of (data_of values id)) ≡ 0
place-flat [] id = refl
place-flat (v ∷ values) id = ap (λ n. max n (items_depth (items_of (data_of values id)))) (data-flat v) ∙ ap (λ n. max 0 n) (place-flat values id)

abbrev with_value : AttrValue → Place → Option Place
with_value v p = Some (record p { values = v ∷ p.values })

place-back : (forms : List (Form × Bool)) (values : List AttrValue) (id : List ℕ) → AllZip (λ f v. has_form f.0 f.1 v ≡ true) forms values → is_id id ≡ true
    → place_from forms (data_of values id) ≡ Some (record { values = values; id = id })
place-back [] [] id z rule = ap (λ b. some_if b (record { values = []; id = id })) rule
place-back [] (v ∷ values) id z rule = absurd z
place-back (f ∷ forms) [] id z rule = absurd z
place-back (f ∷ forms) (v ∷ values) id z rule =
    ap (λ o. option.◌>>=◌ o (λ w. option.◌>>=◌ (place_from forms (data_of values id)) (with_value w))) (value-back f.0 f.1 v z.0)
    ∙ ap (λ o. option.◌>>=◌ o (with_value v)) (place-back forms values id z.1 rule)

shallow : (n : ℕ) → n ≡ 0 → suc n < 128
shallow n e = omega (arith, e)

-- the three laws of JSON that serve
abbrev pub IsReadBack : Type 0
IsReadBack = (d : Data) → IsPlain d → HasUtf8 d → depth d < 128 → json_of (compact_text d) ≡ Some d

abbrev pub IsWrittenInUtf8 : Type 0
IsWrittenInUtf8 = (d : Data) → IsPlain d → HasUtf8 d → IsUtf8 (compact_text d)

abbrev pub AreBytes : Type 0
AreBytes = (bytes : List ℕ) → IsUtf8 bytes → (i : ℕ) → get_or bytes i 0 < 256

strict : IsConsistent url_safe_no_pad
strict = refl

pub cursor-back : IsReadBack → IsWrittenInUtf8 → AreBytes → (forms : List (Form × Bool)) (place : Place) → IsPlaceOf forms place
    → place_of_cursor forms (cursor_text place) ≡ Some place
cursor-back back utf8 bytes forms place fits =
    let ds = data_of place.values place.id in
    let d = array (items_of (data_of place.values place.id)) in
    let plain : IsPlain d = place-plain forms place.values place.id fits.0 in
    let coded : HasUtf8 d = place-utf8 forms place.values place.id fits.0 (IsUtf8-is_id place.id fits.1) in
    let text = compact_text (array (items_of (data_of place.values place.id))) in
    let decoded : decode_of url_safe_no_pad (cursor_text place) ≡ Ok text = decode_of-encode_of url_safe_no_pad text strict (λ i. bytes text (utf8 d plain coded) i) in
    let read : json_of text ≡ Some d = back d plain coded (shallow (items_depth (items_of ds)) (place-flat place.values place.id)) in
    let listed : items_list (items_of ds) ≡ ds = items_list-items_of ds in
    let found : place_from forms ds ≡ Some place = place-back forms place.values place.id fits.0 fits.1 in
    let same : bytes_eq (cursor_text place) (cursor_text place) ≡ true = (bytes_eq-Decides (cursor_text place) (cursor_text place)).1 refl in
    ap (λ r. option.◌>>=◌ (result_ok r) (λ b. option.◌>>=◌ (json_of b) (λ d. option.◌>>=◌ (as_array d) (λ items. option.◌>>=◌ (place_from forms (items_list items)) (λ p. some_if (bytes_eq (cursor_text p) (cursor_text place)) p))))) decoded
    ∙ ap (λ o. option.◌>>=◌ o (λ d. option.◌>>=◌ (as_array d) (λ items. option.◌>>=◌ (place_from forms (items_list items)) (λ p. some_if (bytes_eq (cursor_text p) (cursor_text place)) p)))) read
    ∙ ap (λ l. option.◌>>=◌ (place_from forms l) (λ p. some_if (bytes_eq (cursor_text p) (cursor_text place)) p)) listed
    ∙ ap (λ o. option.◌>>=◌ o (λ p. some_if (bytes_eq (cursor_text p) (cursor_text place)) p)) found
    ∙ ap (λ b. some_if b place) same
