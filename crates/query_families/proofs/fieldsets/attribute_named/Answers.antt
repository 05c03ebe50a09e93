use Rattle.std.proofs.Common.{Some, sym, ap, ◌∙◌}
use Rattle.resource_schema.specs.declared.kinds.Attribute.{Attribute}
use Rattle.query_families.proofs.Fields.{attribute-found}
use Rattle.query_families.proofs.fieldsets.attribute_named.Goals as goal

pub returns-in-Some : goal.returns-in-Some
returns-in-Some c =
    ap (λ (b : Attribute). Some b.name) (sym c.index-attributes-place.is)
    ∙ attribute-found c.args.attributes.now c.args.text.now c.in-Some.place c.index-attributes-place.result (sym c.place_of_attribute.ensures.number ∙ c.in-Some.is) c.index-attributes-place.is
