use Rattle.std.proofs.Common.{◌≡◌, ◌∙◌, ap}
use Rattle.std.proofs.lemmas.Slice.Zip.{either_empty_from_Zip}
use Rattle.std.specs.Iterator.Adapters.{zip_first, zip_second}
use Rattle.std.specs.Slice.Iter.{iter_rest}
use Rattle.request_model.specs.Values.{value_data}
use Rattle.serde_json.specs.View.{members_view}
use Rattle.store_model.specs.Resource.{is_shown, members_of, attribute_members}
use Rattle.resource_objects.proofs.Shown.{shown-begin, shown-end}
use Rattle.resource_objects.proofs.attributes.attribute_members.Goals as goal

pub loop-attribute-init : goal.loop-attribute-init
loop-attribute-init c =
    let moved = c.into_iter-attribute-iterator.ensures.into_iter_gives in
    let firsts = ap (λ z. iter_rest (zip_first z)) moved ∙ ap iter_rest c.zip-attribute-items.ensures.first ∙ c.iter.ensures.rest ∙ c.attributes_of-attributes.ensures.attributes in
    let second : iter_rest (zip_second c.zip-attribute-items.result) ≡ c.as_slice.result.now = c.zip-attribute-items.ensures.second.0 in
    let seconds = ap (λ z. iter_rest (zip_second z)) moved ∙ second ∙ c.as_slice.ensures in
    shown-begin (λ a. a.name) (λ e. value_data e.1) (λ e. is_shown c.args.fields.now c.args.row.now.key.kind e.0.name) _ _ _ _ _ c.fields_rise.ensures.attributes firsts seconds (ap members_view c.new-members.ensures.empty)

pub returns : goal.returns
returns c =
    let left = c.loop-attribute.attribute-iterator in
    shown-end (λ a. a.name) (λ e. value_data e.1) (λ e. is_shown c.args.fields.now c.args.row.now.key.kind e.0.name)
    (members_of (attribute_members c.args.schema.now c.args.row.now c.args.fields.now)) (members_view c.loop-attribute.members.entries) (iter_rest (zip_first left)) (iter_rest (zip_second left)) c.loop-attribute.invariant
    (either_empty_from_Zip left c.next.new.self c.next.result c.in-None.is c.next.ensures.steps)
