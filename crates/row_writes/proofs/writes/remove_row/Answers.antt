use Rattle.std.proofs.lemmas.Result.{on_ok_weaker}
use Rattle.row_writes.proofs.Rewriting.{remove_leads}
use Rattle.row_writes.proofs.writes.remove_row.Goals as goal

pub returns-clause-leads : goal.returns-clause-leads
returns-clause-leads g c =
    let links = rw c.as_slice.ensures at c.in_ok-rewrite_links.ensures.links in
    on_ok_weaker c.remove.result
    (λ removed w now valid there leads. remove_leads c.args.schema.now w now c.args.old.now _ _ _ valid there links removed.2 leads)
    c.remove.ensures.ok
