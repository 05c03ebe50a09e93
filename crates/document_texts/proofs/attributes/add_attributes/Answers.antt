use Rattle.std.proofs.Common.{◌∙◌, ap}
use Rattle.std.specs.Prelude.{codes}
use Rattle.std.proofs.lemmas.Slice.Zip.{Zip-more, either_empty_from_Zip}
use Rattle.std.specs.Iterator.Adapters.{zip_first, zip_second}
use Rattle.std.specs.Slice.Iter.{iter_rest}
use Rattle.request_model.specs.Values.{value_data}
use Rattle.store_model.specs.Resource.{is_shown}
use Rattle.document_texts.proofs.Shown.{shown-turn, shown-end}
use Rattle.document_texts.proofs.attributes.add_attributes.Goals as goal

pub loop-attribute-preserved : goal.loop-attribute-preserved
loop-attribute-preserved c =
    let before = c.loop-attribute.attribute-iterator in
    let after = c.next.new.self in
    let next = Zip-more before after c.next.result (c.in-Some.attribute, c.in-Some.value) c.in-Some.is c.next.ensures.steps in
    shown-turn (codes "attributes") (λ a. a.name) (λ e. value_data e.1) (λ e. is_shown c.args.fields.now c.args.row.now.key.kind e.0.name)
    c.in-Some.attribute.now (iter_rest (zip_first after)) (iter_rest (zip_first before)) c.in-Some.value.now (iter_rest (zip_second after)) (iter_rest (zip_second before))
    c.loop-attribute.begun c.is_begun-begun.result c.is_shown-shown.result
    next.0 next.1 (c.is_shown-shown.ensures ∙ ap (is_shown c.args.fields.now c.args.row.now.key.kind) c.as_str.ensures) c.is_begun-begun.ensures c.add_attribute.ensures c.loop-attribute.invariant

pub returns : goal.returns
returns c =
    let left = c.loop-attribute.attribute-iterator in
    shown-end (codes "attributes") (λ a. a.name) (λ e. value_data e.1) (λ e. is_shown c.args.fields.now c.args.row.now.key.kind e.0.name)
    (iter_rest (zip_first left)) (iter_rest (zip_second left)) c.loop-attribute.begun
    (either_empty_from_Zip left c.next.new.self c.next.result c.in-None.is c.next.ensures.steps) c.loop-attribute.invariant c.add_closing.ensures
