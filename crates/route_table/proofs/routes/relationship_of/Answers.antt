use Rattle.std.proofs.Common.{◌∙◌}
use Rattle.route_table.proofs.RouteLemmas.{few_relationships, number_at_kind, no_number}
use Rattle.route_table.proofs.routes.relationship_of.Goals as goal

pub relationship-requires : goal.relationship-requires
relationship-requires c = record {
  few = few_relationships c.args.schema.now c.kinds.result.now c.args.kind c.in-Some.kind.now c.kinds.ensures.kinds c.in-Some.ensures.lookup.0 c.in-Some.ensures.lookup.1 c.kinds.ensures.rules;
}

pub returns-in-Some : goal.returns-in-Some
returns-in-Some c =
    c.relationship.ensures
    ∙ number_at_kind c.args.schema.now c.kinds.result.now c.args.kind c.in-Some.kind.now c.args.name.now c.kinds.ensures.kinds c.in-Some.ensures.lookup.0 c.in-Some.ensures.lookup.1

pub returns-in-None : goal.returns-in-None
returns-in-None c = no_number c.args.schema.now c.kinds.result.now c.args.kind c.args.name.now c.kinds.ensures.kinds c.in-None.ensures.lookup.0
