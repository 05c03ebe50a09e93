use Rattle.std.proofs.Common.{sym, ◌∙◌}
use Rattle.document_parts.specs.Walks.{members_in, kept-more}
use Rattle.resource_reader.specs.Fields.{is_no_at_member, fields_among}
use Rattle.resource_reader.proofs.fields.read_relationships.Goals as goal

pub loop-name-preserved-in-Continue-1 : goal.loop-name-preserved-in-Continue-1
loop-name-preserved-in-Continue-1 c =
    kept-more (λ m. is_no_at_member m.0) _ (fields_among (members_in c.args.members.now)) _ _ _ c.loop-name.invariant _ _ _ _ _ c.in-Some.is c.next.ensures.steps c.as_str-name.ensures.value (sym c.is_field_name.ensures ∙ c.if-is_field_name.true) c.in-Ok.ensures c.in_ok-push-in-Ok.ensures.items
