-- The last part of the fields of a name, one field after another.
use Rattle.std.proofs.Common.{◌≡◌, ℕ, true, false, List, ◌∷◌, refl, ap, ◌∙◌}
use Rattle.http_messages.specs.declared.messages.Field.{Field}
use Rattle.http_model.specs.Framings.{same_in_any_case, values_of, comma_parts, parts_of, or_text, last_part}
use Rattle.http_framing.proofs.CommaParts.{or_text_then, last_of_both}

pub named_then : (f : Field) (fields : List Field) (name found : List ℕ) → same_in_any_case f.name name ≡ true
    → or_text (last_part (parts_of (values_of name (f ∷ fields)))) found ≡ or_text (last_part (parts_of (values_of name fields))) (or_text (last_part (comma_parts f.value)) found)
named_then f fields name found h =
    let more = parts_of (values_of name fields) in
    rw h (
    ap (λ (l : List ℕ). or_text l found) (last_of_both (comma_parts f.value) more)
    ∙ or_text_then (last_part more) (last_part (comma_parts f.value)) found
    )

pub named_else : (f : Field) (fields : List Field) (name found : List ℕ) → same_in_any_case f.name name ≡ false
    → or_text (last_part (parts_of (values_of name (f ∷ fields)))) found ≡ or_text (last_part (parts_of (values_of name fields))) found
named_else f fields name found h = rw h refl
