use Rattle.std.proofs.lemmas.Result.{on_ok_weaker}
use Rattle.store_model.specs.Change.{with_row}
use Rattle.row_change.proofs.creates.write_created.Goals as goal

pub returns-clause-leads : goal.returns-clause-leads
returns-clause-leads g c =
    on_ok_weaker c.write_next.result
    (λ wrote w now valid fits leads. wrote c.args.schema.now w (with_row now c.args.row) (c.in_ok-put_row.ensures.leads w now valid fits leads))
    c.write_next.ensures.leads
