use Rattle.std.proofs.Common.{◌≡◌, drop, map}
use Rattle.resource_schema.specs.SchemaRules.{is_one_of}
use Rattle.schema_file.proofs.fields.has_attribute.Given as goal

abbrev pub invariant-loop-attribute : goal.invariant-loop-attribute
invariant-loop-attribute l = is_one_of (map (λ a. a.name) (drop l.attribute-index l.attributes)) l.name ≡ is_one_of (map (λ a. a.name) l.attributes) l.name
