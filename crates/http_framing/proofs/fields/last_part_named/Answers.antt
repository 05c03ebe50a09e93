use Rattle.std.proofs.Common.{◌≡◌, ◌∙◌, suc, ap, sym, List, ℕ, ◌∷◌, drop, drop-cons, add-one}
use Rattle.http_messages.specs.declared.messages.Field.{Field}
use Rattle.http_model.specs.Framings.{same_in_any_case, values_of, comma_parts, parts_of, or_text, last_part}
use Rattle.http_framing.proofs.NamedParts.{named_then, named_else}
use Rattle.http_framing.proofs.fields.last_part_named.Goals.{then-same_in_any_case, else-same_in_any_case}
use Rattle.http_framing.proofs.fields.last_part_named.Goals as goal

pub loop-field-preserved : goal.loop-field-preserved
loop-field-preserved c =
    let i = c.loop-field.field-index in
    let f = c.field-item.result in
    let fields = c.args.fields.now in
    let name = c.args.name.now in
    let here : drop i fields ≡ f ∷ drop (suc i) fields =
    drop-cons fields i f c.loop-field-test.true ∙ ap (λ (x : Field). x ∷ drop (suc i) fields) (sym c.field-item.is) in
    let old = ap (λ (l : List Field). or_text (last_part (parts_of (values_of name l))) c.loop-field.found.now) here in
    let test = ap (λ (l : List ℕ). same_in_any_case l name) (c.as_bytes.ensures.value ∙ c.as_str.ensures) in
    elim c.if-same_in_any_case.branch [
      | then-same_in_any_case w ↦
          let found : c.if-same_in_any_case.found.now ≡ or_text (last_part (comma_parts f.value)) c.loop-field.found.now =
          ap (λ b. b.now) w.found-is ∙ w.or_text-found.ensures
          ∙ ap (λ (l : List ℕ). or_text l c.loop-field.found.now) (w.last_part.ensures ∙ ap (λ (l : List ℕ). last_part (comma_parts l)) w.as_slice.ensures) in
          rw add-one (
          ap (or_text (last_part (parts_of (values_of name (drop (suc i) fields))))) found
          ∙ sym (named_then f (drop (suc i) fields) name c.loop-field.found.now (sym test ∙ sym c.same_in_any_case.ensures ∙ w.if-same_in_any_case.true))
          ∙ sym old ∙ c.loop-field.invariant
          )
      | else-same_in_any_case w ↦
          rw add-one (
          ap (λ b. or_text (last_part (parts_of (values_of name (drop (suc i) fields)))) b.now) w.found-is
          ∙ sym (named_else f (drop (suc i) fields) name c.loop-field.found.now (sym test ∙ sym c.same_in_any_case.ensures ∙ w.if-same_in_any_case.false))
          ∙ sym old ∙ c.loop-field.invariant
          )
    ]
