-- The places that stand in texts, in parts.
use Rattle.std.specs.Prelude.{ℕ, Bool, List, ◌++◌, Option, option_map}
use Rattle.std.specs.Result.{result_ok}
use Rattle.serde_json.specs.Data.{Data}
use Rattle.serde_json.specs.Find.{as_array, as_str}
use Rattle.base64.specs.Engines.{url_safe_no_pad}
use Rattle.base64.specs.GeneralPurpose.{decode_of}
use Rattle.ident_rules.specs.Id.{is_id}
use Rattle.json_forms.specs.Json.{json_of, items_list}
use Rattle.resource_schema.specs.declared.values.AttrValue.{AttrValue}
use Rattle.resource_schema.specs.declared.values.Form.{Form}
use Rattle.resource_schema.specs.declared.values.Place.{Place}
use Rattle.request_model.specs.Cursors.{place_from}
use Rattle.request_model.specs.Options.{◌>>=◌}
use Rattle.request_model.specs.Words.{some_if}

-- the id that a value is
abbrev pub id_in : Data → Option (List ℕ)
id_in d = do
  id ← as_str d
  some_if (is_id id) id

-- a place with these values before its own
abbrev pub with_values : List AttrValue → Place → Place
with_values values place = record place { values = values ++ place.values }

-- the same, where there is a place
abbrev pub place_behind : List AttrValue → Option Place → Option Place
place_behind values place = option_map (with_values values) place

-- the place in an array
abbrev pub place_in : List (Form × Bool) → Data → Option Place
place_in forms d = do
  items ← as_array d
  place_from forms (items_list items)

-- the place in a text, in any spelling
abbrev pub place_of_text : List (Form × Bool) → List ℕ → Option Place
place_of_text forms text = do
  bytes ← result_ok (decode_of url_safe_no_pad text)
  d ← json_of bytes
  place_in forms d
