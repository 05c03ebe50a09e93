-- A place has no float.
use Rattle.std.proofs.Common.{◌≡◌, ℕ, ◌||◌, false, List, [], ◌∷◌, ◌++◌, map, refl, ap, ◌∙◌}
use Rattle.std.specs.Prelude.{ℤ, pos, negsuc}
use Rattle.serde_json.specs.Data.{string}
use Rattle.serde_json.specs.View.{items_of}
use Rattle.serde_json.specs.Written.{has_float, items_have_float}
use Rattle.resource_schema.specs.declared.values.AttrValue.{AttrValue}
use Rattle.resource_schema.specs.declared.values.AttrValue.TheVariants as value
use Rattle.resource_schema.specs.declared.values.Place.{Place}
use Rattle.request_model.specs.Cursors.{place_data}
use Rattle.request_model.specs.Values.{integer, value_data}

integer-no_float : (z : ℤ) → has_float (integer z) ≡ false
integer-no_float (pos n) = refl
integer-no_float (negsuc n) = refl

value-no_float : (v : AttrValue) → has_float (value_data v) ≡ false
value-no_float value.Null = refl
value-no_float (value.Int z) = integer-no_float z
value-no_float (value.Text t) = refl
value-no_float (value.Bool b) = refl

items-no_float : (values : List AttrValue) (id : List ℕ) → items_have_float (items_of (map value_data values ++ string id ∷ [])) ≡ false
items-no_float [] id = refl
items-no_float (v ∷ values) id =
    ap (λ b. b || items_have_float (items_of (map value_data values ++ string id ∷ []))) (value-no_float v) ∙ items-no_float values id

pub place-no_float : (place : Place) → has_float (place_data place) ≡ false
place-no_float place = items-no_float place.values place.id
