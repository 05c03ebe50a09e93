use Rattle.std.proofs.Common.{◌≡◌, ◌∙◌, ap}
use Rattle.std.proofs.lemmas.Slice.Zip.{either_empty_from_Zip}
use Rattle.std.specs.Iterator.Adapters.{zip_first, zip_second}
use Rattle.std.specs.Slice.Iter.{iter_rest}
use Rattle.serde_json.specs.View.{members_view}
use Rattle.store_model.specs.Resource.{is_shown, members_of, relationship_object, relationship_members}
use Rattle.resource_objects.proofs.Shown.{shown-begin, shown-end}
use Rattle.resource_objects.proofs.relationships.relationship_members.Goals as goal

pub loop-relationship-init : goal.loop-relationship-init
loop-relationship-init c =
    let moved = c.into_iter-relationship-iterator.ensures.into_iter_gives in
    let firsts = ap (λ z. iter_rest (zip_first z)) moved ∙ ap iter_rest c.zip-relationship-items.ensures.first ∙ c.iter.ensures.rest ∙ c.relationships_of-relationships.ensures.relationships in
    let second : iter_rest (zip_second c.zip-relationship-items.result) ≡ c.as_slice.result.now = c.zip-relationship-items.ensures.second.0 in
    let seconds = ap (λ z. iter_rest (zip_second z)) moved ∙ second ∙ c.as_slice.ensures in
    shown-begin (λ r. r.name) (λ e. relationship_object c.args.schema.now c.args.row.now.key e.0 e.1) (λ e. is_shown c.args.fields.now c.args.row.now.key.kind e.0.name) _ _ _ _ _ c.fields_rise.ensures.relationships firsts seconds (ap members_view c.new-members.ensures.empty)

pub returns : goal.returns
returns c =
    let left = c.loop-relationship.relationship-iterator in
    shown-end (λ r. r.name) (λ e. relationship_object c.args.schema.now c.args.row.now.key e.0 e.1) (λ e. is_shown c.args.fields.now c.args.row.now.key.kind e.0.name)
    (members_of (relationship_members c.args.schema.now c.args.row.now c.args.fields.now)) (members_view c.loop-relationship.members.entries) (iter_rest (zip_first left)) (iter_rest (zip_second left)) c.loop-relationship.invariant
    (either_empty_from_Zip left c.next.new.self c.next.result c.in-None.is c.next.ensures.steps)
