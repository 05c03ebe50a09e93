use Rattle.std.proofs.Common.{map}
use Rattle.std.specs.Prelude.{codes}
use Rattle.std.specs.List.{filter, zip}
use Rattle.std.specs.Iterator.Adapters.{zip_first, zip_second}
use Rattle.std.specs.Slice.Iter.{iter_rest}
use Rattle.store_model.specs.Resource.{is_shown, relationship_object, relationship_members}
use Rattle.json_texts.specs.Drafts.{Leaves}
use Rattle.document_texts.specs.Texts.{leading, left_of}
use Rattle.document_texts.proofs.relationships.add_relationships.Given as goal

abbrev pub invariant-loop-relationship : goal.invariant-loop-relationship
invariant-loop-relationship l =
    Leaves l.fn.draft l.draft
    (left_of (codes "relationships") l.begun (map (λ e. (e.0.name, relationship_object l.schema l.row.key e.0 e.1)) (filter (λ e. is_shown l.fields l.row.key.kind e.0.name) (zip (iter_rest (zip_first l.relationship-iterator)) (iter_rest (zip_second l.relationship-iterator))))))
    (leading (codes "relationships") (relationship_members l.schema l.row l.fields))
