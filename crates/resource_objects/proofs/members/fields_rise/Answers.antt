use Rattle.std.proofs.Common.{◌≡◌, true, [], Some, None, map, refl, IsTrue}
use Rattle.std.specs.Prelude.{slice_get}
use Rattle.std.specs.Option.{option_map_or}
use Rattle.resource_schema.specs.declared.schema.Schema.{Schema}
use Rattle.resource_schema.specs.declared.kinds.Kind.{Kind}
use Rattle.resource_schema.specs.SchemaRules.{is_schema, are_rising}
use Rattle.resource_schema.specs.SchemaLaws.{kind_at-parts}
use Rattle.resource_objects.specs.Objects.{attribute_names, relationship_names}
use Rattle.resource_objects.proofs.members.fields_rise.Goals as goal

module _ (schema : Schema) (kind : _) (rules : IsTrue (is_schema schema)) where
  attributes_rise : are_rising (attribute_names schema kind) ≡ true
  attributes_rise = by_look (slice_get schema kind) refl where
    by_look : (o : _) → slice_get schema kind ≡ o → are_rising (map (λ a. a.name) (option_map_or (λ (k : Kind). k.attributes) o [])) ≡ true
    by_look None e = refl
    by_look (Some k) e = (kind_at-parts schema kind k rules e).rising_attributes

  relationships_rise : are_rising (relationship_names schema kind) ≡ true
  relationships_rise = by_look (slice_get schema kind) refl where
    by_look : (o : _) → slice_get schema kind ≡ o → are_rising (map (λ r. r.name) (option_map_or (λ (k : Kind). k.relationships) o [])) ≡ true
    by_look None e = refl
    by_look (Some k) e = (kind_at-parts schema kind k rules e).rising_relationships

pub returns-clause-attributes : goal.returns-clause-attributes
returns-clause-attributes c = attributes_rise c.args.schema.now c.args.kind c.kinds.ensures.rules

pub returns-clause-relationships : goal.returns-clause-relationships
returns-clause-relationships c = relationships_rise c.args.schema.now c.args.kind c.kinds.ensures.rules
