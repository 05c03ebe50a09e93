-- A cursor that was read has values of the sort's forms.
use Rattle.std.specs.Prelude.{ℕ, ◌<◌, Bool, true, List, [], ◌∷◌, length, zero, suc, Option, Some, None, MatchOption, slice_get, option_map}
use Rattle.std.specs.Result.{result_ok}
use Rattle.std.specs.List.{AllZip, AllByRecursion, cons_option}
use Rattle.std.specs.Str.{bytes_eq}
use Rattle.std.proofs.Common.{◌≡◌, refl, sym, arith, subst}
use Rattle.serde_json.specs.Data.{Data}
use Rattle.serde_json.specs.Find.{as_array, as_str}
use Rattle.base64.specs.Engines.{url_safe_no_pad}
use Rattle.base64.specs.GeneralPurpose.{decode_of}
use Rattle.ident_rules.specs.Id.{is_id}
use Rattle.json_forms.specs.Json.{json_of, items_list}
use Rattle.resource_schema.specs.declared.schema.Schema.{Schema}
use Rattle.resource_schema.specs.declared.kinds.Attribute.{Attribute}
use Rattle.resource_schema.specs.declared.values.Form.{Form}
use Rattle.resource_schema.specs.declared.values.AttrValue.{AttrValue}
use Rattle.resource_schema.specs.declared.values.Place.{Place}
use Rattle.resource_schema.specs.Forms.{HasForm, has_form}
use Rattle.resource_schema.specs.Kinds.{attributes_of}
use Rattle.task_forms.specs.declared.queries.SortKey.{SortKey}
use Rattle.task_forms.specs.Fit.{FitsValue, FitsCursor}
use Rattle.request_model.specs.Values.{value_from}
use Rattle.request_model.specs.Cursors.{IsPlaceOf, cursor_text, place_from, place_of_cursor}
use Rattle.request_model.specs.Queries.{sort_forms}
use Rattle.std.proofs.lemmas.Slice.Eq.{bytes_eq-Decides}
use Rattle.request_model.specs.ReadingLaws.{bind-Some, some_if-Some}
use Rattle.request_model.proofs.SchemaFileLemmas.{value_from-form}

pub place_from-fits : (forms : List (Form × Bool)) (ds : List Data) (place : Place) → place_from forms ds ≡ Some place → IsPlaceOf forms place
place_from-fits [] [] place e = cc e
place_from-fits [] (d ∷ []) place e =
    let a = bind-Some (as_str d) _ place e in
    let b = some_if-Some (is_id a.0) (record { values = []; id = a.0 }) place a.2 in
    subst (IsPlaceOf []) b.1 (tt, b.0)
place_from-fits [] (d ∷ c ∷ ds) place e = cc e
place_from-fits (f ∷ forms) [] place e = cc e
place_from-fits (f ∷ forms) (d ∷ ds) place e =
    let a = bind-Some (value_from f.0 f.1 d) _ place e in
    let b = bind-Some (place_from forms ds) _ place a.2 in
    let rest = place_from-fits forms ds b.0 b.1 in
    let same : record b.0 { values = a.0 ∷ b.0.values } ≡ place = cc b.2 in
    subst (IsPlaceOf (f ∷ forms)) same ((value_from-form f.0 f.1 d a.0 a.1, rest.0), rest.1)

-- what is read as a cursor is the text of its place, and of the forms
pub place_of_cursor-parts : (forms : List (Form × Bool)) (text : List ℕ) (place : Place) → place_of_cursor forms text ≡ Some place → IsPlaceOf forms place × (bytes_eq (cursor_text place) text ≡ true)
place_of_cursor-parts forms text place e =
    let a = bind-Some (result_ok (decode_of url_safe_no_pad text)) _ place e in
    let b = bind-Some (json_of a.0) _ place a.2 in
    let c = bind-Some (as_array b.0) _ place b.2 in
    let d = bind-Some (place_from forms (items_list c.0)) _ place c.2 in
    let f = some_if-Some (bytes_eq (cursor_text d.0) text) d.0 place d.2 in
    subst (λ p. IsPlaceOf forms p × (bytes_eq (cursor_text p) text ≡ true)) f.1 (place_from-fits forms (items_list c.0) d.0 d.1, f.0)

pub place_of_cursor-spelling : (forms : List (Form × Bool)) (text : List ℕ) (place : Place) → place_of_cursor forms text ≡ Some place → text ≡ cursor_text place
place_of_cursor-spelling forms text place e = sym ((bytes_eq-Decides (cursor_text place) text).0 (place_of_cursor-parts forms text place e).1)

pub place_of_cursor-forms : (forms : List (Form × Bool)) (text : List ℕ) (place : Place) → place_of_cursor forms text ≡ Some place → IsPlaceOf forms place
place_of_cursor-forms forms text place e = (place_of_cursor-parts forms text place e).0

-- what stands within a list is there
pub within-found : {X : Type 0} (xs : List X) (i : ℕ) → i < length xs → (x : X) × (slice_get xs i ≡ Some x)
within-found [] i h = absurd (omega arith)
within-found (x ∷ xs) zero h = (x, refl)
within-found (x ∷ xs) (suc i) h = within-found xs i (omega arith)

module _ (schema : Schema) (kind : ℕ) where
  one-fits : (k : SortKey) (o : Option Attribute) (a : Attribute) (forms : List (Form × Bool)) (values : List AttrValue) → o ≡ Some a
      → AllZip (λ f v. has_form f.0 f.1 v ≡ true) (cons_option (option_map (λ a. (a.form, a.nullable)) o) forms) values
      → (v : AttrValue) × (rest : List AttrValue) × (values ≡ v ∷ rest) × MatchOption o ⊥ (λ a. HasForm a v) × AllZip (λ f v. has_form f.0 f.1 v ≡ true) forms rest
  one-fits k None a forms values e z = cc e
  one-fits k (Some b) a forms [] e z = absurd z
  one-fits k (Some b) a forms (v ∷ values) e z = (v, values, refl, z.0, z.1)

  -- the values of a cursor are of the attributes that sort
  pub values-fit : (keys : List SortKey) (values : List AttrValue) → AllByRecursion (λ s. s.attribute < length (attributes_of schema kind)) keys
      → AllZip (λ f v. has_form f.0 f.1 v ≡ true) (sort_forms schema kind keys) values → AllZip (λ s v. FitsValue schema kind (s.attribute, v)) keys values
  values-fit [] [] known z = tt
  values-fit [] (v ∷ values) known z = absurd z
  values-fit (k ∷ keys) values known z =
      let a = within-found (attributes_of schema kind) k.attribute known.0 in
      let one = one-fits k (slice_get (attributes_of schema kind) k.attribute) a.0 (sort_forms schema kind keys) values a.1 z in
      subst (λ vs. AllZip (λ s v. FitsValue schema kind (s.attribute, v)) (k ∷ keys) vs) (sym one.2) (one.3, values-fit keys one.1 known.1 one.4)

  pub cursor-fits : (keys : List SortKey) (text : List ℕ) (place : Place) → AllByRecursion (λ s. s.attribute < length (attributes_of schema kind)) keys
      → place_of_cursor (sort_forms schema kind keys) text ≡ Some place → FitsCursor schema kind keys place
  cursor-fits keys text place known e =
      let parts = place_of_cursor-parts (sort_forms schema kind keys) text place e in
      (values-fit keys place.values known parts.0.0, parts.0.1)
