use Rattle.std.proofs.Common.{◌∙◌}
use Rattle.compound_document.proofs.Lists.{last_at}
use Rattle.compound_document.proofs.links.last_of.Goals as goal

pub returns : goal.returns
returns c = c.last.ensures.value ∙ last_at c.args.rows.now
