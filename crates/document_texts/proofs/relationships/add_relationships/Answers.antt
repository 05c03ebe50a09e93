use Rattle.std.proofs.Common.{◌∙◌, ap}
use Rattle.std.specs.Prelude.{codes}
use Rattle.std.proofs.lemmas.Slice.Zip.{Zip-more, either_empty_from_Zip}
use Rattle.std.specs.Iterator.Adapters.{zip_first, zip_second}
use Rattle.std.specs.Slice.Iter.{iter_rest}
use Rattle.store_model.specs.Resource.{is_shown, relationship_object}
use Rattle.document_texts.proofs.Shown.{shown-turn, shown-end}
use Rattle.document_texts.proofs.relationships.add_relationships.Goals as goal

pub loop-relationship-preserved : goal.loop-relationship-preserved
loop-relationship-preserved c =
    let before = c.loop-relationship.relationship-iterator in
    let after = c.next.new.self in
    let next = Zip-more before after c.next.result (c.in-Some.relationship, c.in-Some.link) c.in-Some.is c.next.ensures.steps in
    shown-turn (codes "relationships") (λ a. a.name) (λ e. relationship_object c.args.schema.now c.args.row.now.key e.0 e.1) (λ e. is_shown c.args.fields.now c.args.row.now.key.kind e.0.name)
    c.in-Some.relationship.now (iter_rest (zip_first after)) (iter_rest (zip_first before)) c.in-Some.link.now (iter_rest (zip_second after)) (iter_rest (zip_second before))
    c.loop-relationship.begun c.is_begun-begun.result c.is_shown-shown.result
    next.0 next.1 (c.is_shown-shown.ensures ∙ ap (is_shown c.args.fields.now c.args.row.now.key.kind) c.as_str.ensures) c.is_begun-begun.ensures c.add_relationship.ensures c.loop-relationship.invariant

pub returns : goal.returns
returns c =
    let left = c.loop-relationship.relationship-iterator in
    shown-end (codes "relationships") (λ a. a.name) (λ e. relationship_object c.args.schema.now c.args.row.now.key e.0 e.1) (λ e. is_shown c.args.fields.now c.args.row.now.key.kind e.0.name)
    (iter_rest (zip_first left)) (iter_rest (zip_second left)) c.loop-relationship.begun
    (either_empty_from_Zip left c.next.new.self c.next.result c.in-None.is c.next.ensures.steps) c.loop-relationship.invariant c.add_closing.ensures
