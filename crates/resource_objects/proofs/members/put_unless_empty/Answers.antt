use Rattle.std.proofs.Common.{◌∙◌, ap, sym}
use Rattle.serde_json.specs.Data.{put}
use Rattle.serde_json.specs.View.{members_view}
use Rattle.serde_json.proofs.Views.{view-Object}
use Rattle.resource_objects.proofs.Listed.{put_unless_none-some}
use Rattle.resource_objects.proofs.members.put_unless_empty.Goals as goal

pub returns-in_ok-put : goal.returns-in_ok-put
returns-in_ok-put c =
    c.in_ok-put.ensures.ok
    ∙ ap (λ d. put c.args.name.now d (members_view c.args.members.now.entries)) (view-Object c.args.inner)
    ∙ put_unless_none-some c.args.name.now c.args.inner.entries (members_view c.args.members.now.entries) (λ none. cc (sym c.if-not-is_empty.true ∙ c.is_empty.ensures.1 none))
