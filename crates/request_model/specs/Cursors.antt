-- Cursors (Cursor Pagination profile, "Cursors"; what stands in them is of this project).
use Rattle.std.specs.Prelude.{ℕ, Bool, IsTrue, List, [], ◌∷◌, ◌++◌, map, Option, Some, None}
use Rattle.std.specs.List.{AllZip}
use Rattle.std.specs.Result.{result_ok}
use Rattle.std.specs.Str.{bytes_eq}
use Rattle.serde_json.specs.Data.{Data, string, array}
use Rattle.serde_json.specs.Find.{as_array, as_str}
use Rattle.serde_json.specs.View.{items_of}
use Rattle.serde_json.specs.Written.{compact_text}
use Rattle.base64.specs.Engines.{url_safe_no_pad}
use Rattle.base64.specs.GeneralPurpose.{encode_of, decode_of}
use Rattle.resource_schema.specs.declared.values.Form.{Form}
use Rattle.resource_schema.specs.declared.values.Place.{Place}
use Rattle.resource_schema.specs.Forms.{has_form}
use Rattle.request_model.specs.Words.{some_if}
use Rattle.request_model.specs.Options.{◌>>=◌}
use Rattle.ident_rules.specs.Id.{is_id}
use Rattle.request_model.specs.Values.{value_data, value_from}
use Rattle.json_forms.specs.Json.{json_of, items_list}

-- a place in an order: an array of the sort values and the id
abbrev pub place_data : Place → Data
place_data place = array (items_of (map value_data place.values ++ string place.id ∷ []))

-- the cursor of a place: base64url without padding (RFC 4648, section 5) of its compact JSON
abbrev pub cursor_text : Place → List ℕ
cursor_text place = encode_of url_safe_no_pad (compact_text (place_data place))

-- a place with one value of each form, null where the flag says so, and an id
abbrev pub IsPlaceOf : List (Form × Bool) → Place → Type 0
IsPlaceOf forms place = AllZip (λ f v. IsTrue (has_form f.0 f.1 v)) forms place.values × IsTrue (is_id place.id)

-- the place in an array: one value of each form, and then an id
abbrev pub place_from : List (Form × Bool) → List Data → Option Place
place_from [] (d ∷ []) = do
  id ← as_str d
  some_if (is_id id) (record { values = []; id = id })
place_from [] _ = None
place_from (f ∷ forms) [] = None
place_from (f ∷ forms) (d ∷ ds) = do
  value ← value_from f.0 f.1 d
  place ← place_from forms ds
  Some (record place { values = value ∷ place.values })

-- the place of these forms whose cursor is the text; no other spelling is accepted
abbrev pub place_of_cursor : List (Form × Bool) → List ℕ → Option Place
place_of_cursor forms text = do
  bytes ← result_ok (decode_of url_safe_no_pad text)
  d ← json_of bytes
  items ← as_array d
  place ← place_from forms (items_list items)
  some_if (bytes_eq (cursor_text place) text) place
