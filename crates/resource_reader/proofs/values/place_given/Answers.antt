use Rattle.std.proofs.Common.{◌∙◌}
use Rattle.resource_reader.proofs.Taken.{find_at, own_at}
use Rattle.resource_reader.proofs.values.place_given.Goals as goal

pub returns-then-number-place-clause-first : goal.returns-then-number-place-clause-first
returns-then-number-place-clause-first c =
    find_at c.args.number c.loop-index.index c.args.given.now (own_at _ _ c.index-given-index.result _ c.loop-index-test.true c.index-given-index.is c.if-number-place.true) ∙ c.loop-index.invariant
