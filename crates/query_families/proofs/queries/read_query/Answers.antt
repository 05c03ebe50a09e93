use Rattle.std.proofs.Common.{◌∙◌, Ok, sym, ap}
use Rattle.request_model.specs.Queries.{query_of}
use Rattle.query_families.proofs.NoQuery.{no_byte, query_of-none}
use Rattle.query_families.proofs.queries.read_query.Goals as goal

pub returns-then-is_empty-clause-reads : goal.returns-then-is_empty-clause-reads
returns-then-is_empty-clause-reads c =
    ap (query_of c.args.schema.now c.args.target.now) (no_byte c.args.query.now c.is_empty.result c.is_empty.ensures c.if-is_empty.true) ∙ query_of-none c.args.schema.now c.args.target.now ∙ ap Ok (sym c.none.ensures)
