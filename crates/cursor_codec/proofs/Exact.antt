-- What is read of a cursor is exactly the place that it is the text of.
use Rattle.std.proofs.Common.{◌≡◌, ℕ, Bool, List, Option, Some, Result, Ok, Err, sym, ap, ◌∙◌}
use Rattle.std.specs.Prelude.{◌↔◌, IfOk}
use Rattle.resource_schema.specs.declared.values.Form.{Form}
use Rattle.resource_schema.specs.declared.values.Place.{Place}
use Rattle.request_model.specs.Cursors.{IsPlaceOf, cursor_text, place_of_cursor}

module _ (forms : List (Form × Bool)) (text : List ℕ)
    (spelling : (place : Place) → place_of_cursor forms text ≡ Some place → text ≡ cursor_text place)
    (formed : (place : Place) → place_of_cursor forms text ≡ Some place → IsPlaceOf forms place)
    (back : (place : Place) → IsPlaceOf forms place → place_of_cursor forms (cursor_text place) ≡ Some place) where
  exact : (o : Option Place) → o ≡ place_of_cursor forms text → (p : Place) → (o ≡ Some p) ↔ (IsPlaceOf forms p × (text ≡ cursor_text p))
  exact o e p = (λ is. (formed p (sym e ∙ is), spelling p (sym e ∙ is)), λ h. e ∙ ap (place_of_cursor forms) h.1 ∙ back p h.0)

  pub exact_if_read : {E : Type 0} (r : Result (Option Place) E) → IfOk r (λ o. o ≡ place_of_cursor forms text)
      → IfOk r (λ o. (p : Place) → (o ≡ Some p) ↔ (IsPlaceOf forms p × (text ≡ cursor_text p)))
  exact_if_read (Ok o) e = exact o e
  exact_if_read (Err x) e = tt
