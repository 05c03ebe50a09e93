use Rattle.std.proofs.Common.{Some, sym, ap, ◌∙◌}
use Rattle.resource_schema.specs.declared.kinds.Relationship.{Relationship}
use Rattle.query_families.proofs.Fields.{relationship-found}
use Rattle.query_families.proofs.fieldsets.relationship_named.Goals as goal

pub returns-in-Some : goal.returns-in-Some
returns-in-Some c =
    ap (λ (b : Relationship). Some b.name) (sym c.index-relationships-place.is)
    ∙ relationship-found c.args.relationships.now c.args.text.now c.in-Some.place c.index-relationships-place.result (sym c.place_of_relationship.ensures.number ∙ c.in-Some.is) c.index-relationships-place.is
