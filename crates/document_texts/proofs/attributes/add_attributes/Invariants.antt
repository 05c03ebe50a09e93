use Rattle.std.proofs.Common.{map}
use Rattle.std.specs.Prelude.{codes}
use Rattle.std.specs.List.{filter, zip}
use Rattle.std.specs.Iterator.Adapters.{zip_first, zip_second}
use Rattle.std.specs.Slice.Iter.{iter_rest}
use Rattle.request_model.specs.Values.{value_data}
use Rattle.store_model.specs.Resource.{is_shown, attribute_members}
use Rattle.json_texts.specs.Drafts.{Leaves}
use Rattle.document_texts.specs.Texts.{leading, left_of}
use Rattle.document_texts.proofs.attributes.add_attributes.Given as goal

abbrev pub invariant-loop-attribute : goal.invariant-loop-attribute
invariant-loop-attribute l =
    Leaves l.fn.draft l.draft
    (left_of (codes "attributes") l.begun (map (λ e. (e.0.name, value_data e.1)) (filter (λ e. is_shown l.fields l.row.key.kind e.0.name) (zip (iter_rest (zip_first l.attribute-iterator)) (iter_rest (zip_second l.attribute-iterator))))))
    (leading (codes "attributes") (attribute_members l.schema l.row l.fields))
