use Rattle.std.proofs.Common.{option_copied}
use Rattle.std.proofs.lemmas.Result.{on_ok_weaker}
use Rattle.row_writes.proofs.Rewriting.{put_leads}
use Rattle.row_writes.proofs.writes.put_row.Goals as goal

pub returns-clause-leads : goal.returns-clause-leads
returns-clause-leads g c =
    let links = rw (c.links_of.ensures, c.as_slice.ensures) at c.in_ok-rewrite_links.ensures.links in
    on_ok_weaker c.put.result
    (λ put w now valid fits leads. put_leads c.args.schema.now w now (option_copied c.args.old) c.args.new _ _ _ valid fits.0 fits.1 links put.2 leads)
    c.put.ensures.ok
