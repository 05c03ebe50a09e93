use Rattle.document_parts.specs.Walks.{members_in, step-begin, step-more}
use Rattle.schema_file.proofs.kinds.read_attributes.Goals as goal

pub loop-name-init : goal.loop-name-init
loop-name-init c = step-begin _ _ _ _ c.into_iter-name-iterator.ensures.into_iter_gives.0 c.new-attributes.ensures.items

pub loop-name-preserved : goal.loop-name-preserved
loop-name-preserved c = step-more _ (members_in c.args.members.now) _ _ _ c.loop-name.invariant _ _ _ _ _ c.in-Some.is c.next.ensures.steps c.as_str.ensures.value c.in-Ok.ensures c.in_ok-push-in-Ok.ensures.items
