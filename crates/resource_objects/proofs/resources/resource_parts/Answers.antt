use Rattle.std.proofs.Common.{◌∙◌, ap}
use Rattle.std.specs.Prelude.{codes}
use Rattle.serde_json.specs.Data.{object, put}
use Rattle.serde_json.specs.View.{members_view}
use Rattle.serde_json.proofs.Views.{view-Object}
use Rattle.resource_objects.specs.Objects.{put_unless_none}
use Rattle.resource_objects.proofs.Listed.{resource_parts-listed}
use Rattle.resource_objects.proofs.resources.resource_parts.Goals as goal

pub returns : goal.returns
returns c =
    let attributes = members_view c.args.attributes.entries in
    let relationships = members_view c.args.relationships.entries in
    let first = c.in_ok-put_unless_empty.ensures ∙ ap (λ es. put_unless_none (codes "attributes") attributes (members_view es)) c.new-members.ensures.empty in
    let second = c.in_ok-put.ensures.ok ∙ (λ i. put (codes "id") (c.in_ok-try_from_str.ensures i) (first i)) in
    let third = c.in_ok-put-2.ensures.ok ∙ ap (put (codes "links") _) second in
    let fourth = c.in_ok-put_unless_empty-2.ensures ∙ ap (put_unless_none (codes "relationships") relationships) third in
    let fifth = c.in_ok-put-3.ensures.ok ∙ (λ i. put (codes "type") (c.in_ok-try_from_str-2.ensures i) (fourth i)) in
    view-Object c.put-3.new.map ∙ ap object (fifth ∙ resource_parts-listed attributes relationships c.args.id.now c.args.kind.now _)
