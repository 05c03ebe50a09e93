use Rattle.std.proofs.Common.{◌≡◌}
use Rattle.std.specs.Iterator.Adapters.{zip_first, zip_second}
use Rattle.std.specs.Slice.Iter.{iter_rest}
use Rattle.serde_json.specs.View.{members_view}
use Rattle.request_model.specs.Values.{value_data}
use Rattle.store_model.specs.Resource.{is_shown, members_of, attribute_members}
use Rattle.resource_objects.proofs.Listed.{put_members}
use Rattle.resource_objects.proofs.Shown.{shown}
use Rattle.resource_objects.proofs.attributes.attribute_members.Given as goal

abbrev pub invariant-loop-attribute : goal.invariant-loop-attribute
invariant-loop-attribute l =
    put_members (members_of (shown (λ a. a.name) (λ e. value_data e.1) (λ e. is_shown l.fields l.row.key.kind e.0.name) (iter_rest (zip_first l.attribute-iterator)) (iter_rest (zip_second l.attribute-iterator)))) (members_view l.members.entries)
    ≡ members_of (attribute_members l.schema l.row l.fields)
