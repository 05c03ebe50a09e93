-- The place in an array, by its items.
use Rattle.std.proofs.Common.{◌≡◌, ℕ, ◌<◌, Bool, List, [], ◌∷◌, map, length, drop, Some, None, refl, ap, sym, ◌∙◌, arith, length-drop}
use Rattle.serde_json.specs.Data.{Data}
use Rattle.serde_json.specs.Find.{as_array}
use Rattle.serde_json.specs.View.{items_of, view}
use Rattle.serde_json.specs.declared.value.Value.{Value}
use Rattle.json_forms.specs.Json.{items_list}
use Rattle.resource_schema.specs.declared.values.AttrValue.{AttrValue}
use Rattle.resource_schema.specs.declared.values.Form.{Form}
use Rattle.request_model.specs.Cursors.{place_from}
use Rattle.request_model.specs.Options as option
use Rattle.request_model.specs.ReadingLaws.{items_list-items_of}
use Rattle.cursor_codec.specs.Places.{place_behind, place_in}

no_item : (forms : List (Form × Bool)) → 0 < length forms → place_from forms [] ≡ None
no_item [] some = absurd (omega arith)
no_item (f ∷ forms) some = refl

-- a walk over the forms that finds no item more
pub step-none : (forms : List (Form × Bool)) (ds : List Data) (values : List AttrValue) (i : ℕ) (left : List Value)
    → place_from forms ds ≡ place_behind values (place_from (drop i forms) (map view left)) → i < length forms → length left ≡ 0 → None ≡ place_from forms ds
step-none forms ds values i (d ∷ left) so_far more none = absurd (omega (arith, none))
step-none forms ds values i [] so_far more none = sym (so_far ∙ ap (place_behind values) (no_item (drop i forms) (omega (arith, length-drop i forms))))

-- the place in an array of items
pub place_in-items : (forms : List (Form × Bool)) (d : Data) (ds : List Data) → Some (items_of ds) ≡ as_array d → place_in forms d ≡ place_from forms ds
place_in-items forms d ds e =
    ap (λ o. option.◌>>=◌ o (λ items. place_from forms (items_list items))) (sym e) ∙ ap (place_from forms) (items_list-items_of ds)
