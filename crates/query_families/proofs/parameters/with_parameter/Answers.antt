use Rattle.query_families.proofs.parameters.with_parameter.Goals as goal

pub returns-in-Fields : goal.returns-in-Fields
returns-in-Fields c = rw c.in-Fields.is (c.with_fields.ensures c.args.kind)

pub returns-in-PageSize : goal.returns-in-PageSize
returns-in-PageSize c = rw c.in-PageSize.is (c.with_size.ensures c.args.schema.now c.args.kind)
