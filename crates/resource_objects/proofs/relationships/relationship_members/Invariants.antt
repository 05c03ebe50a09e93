use Rattle.std.proofs.Common.{◌≡◌}
use Rattle.std.specs.Iterator.Adapters.{zip_first, zip_second}
use Rattle.std.specs.Slice.Iter.{iter_rest}
use Rattle.serde_json.specs.View.{members_view}
use Rattle.store_model.specs.Resource.{is_shown, members_of, relationship_object, relationship_members}
use Rattle.resource_objects.proofs.Listed.{put_members}
use Rattle.resource_objects.proofs.Shown.{shown}
use Rattle.resource_objects.proofs.relationships.relationship_members.Given as goal

abbrev pub invariant-loop-relationship : goal.invariant-loop-relationship
invariant-loop-relationship l =
    put_members (members_of (shown (λ r. r.name) (λ e. relationship_object l.schema l.row.key e.0 e.1) (λ e. is_shown l.fields l.row.key.kind e.0.name) (iter_rest (zip_first l.relationship-iterator)) (iter_rest (zip_second l.relationship-iterator)))) (members_view l.members.entries)
    ≡ members_of (relationship_members l.schema l.row l.fields)
